use Rattle.adb_tools.proofs.Given.{given_fits}
use Rattle.adb_tools.proofs.calling.run_tool.Goals as goal

pub call_tool-requires-clause-port : goal.call_tool-requires-clause-port
call_tool-requires-clause-port g c κs within = (given_fits c.args.words.now c.in-Ok.call (c.in-Ok.ensures.call (λ e. cc))).port

pub call_tool-requires-clause-fits : goal.call_tool-requires-clause-fits
call_tool-requires-clause-fits g c κs within = (given_fits c.args.words.now c.in-Ok.call (c.in-Ok.ensures.call (λ e. cc))).tool
