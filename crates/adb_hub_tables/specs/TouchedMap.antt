-- What a contract sees of a touched map: its rows by rising number.
pub use Rattle.adb_rows.specs.Table.{Table, table, table_code, UpdatesBy, WritesThrough}
