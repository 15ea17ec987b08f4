-- Worked scripts, computed from the definitions.
use Rattle.std.specs.Prelude.{◌≡◌, [], ◌∷◌, Some, codes, refl}
use Rattle.std.specs.Fmt.{digits}
use Rattle.adb_script.specs.Script.{first_bad}
use Rattle.adb_script.specs.Answers.{script_answers}

-- commands, an echo, a stat and a list
commands : script_answers (codes "shell echo hi\nshell nope\necho 3 5000\nstat /\nlist /\n") ≡ Some
    (codes "shell 0 out=hi\\x0a err=\n" ∷ codes "shell 127 out= err=nope: not found\\x0a\n" ∷ codes "echo 3 5000 ok\n"
    ∷ codes "stat / 16877 0 0\n"
    ∷ codes "list / 0\n" ∷ [])
unfolding digits
commands = refl

-- a line that is none
fly : first_bad (codes "shell echo hi\nshell nope\nfly\nstat /\nlist /\n") ≡ Some 3
fly = refl

none : script_answers [] ≡ Some []
none = refl

-- pushes and pulls, one of them below a file
pushes : script_answers (codes "push /a 0\npush /b 3\npull /a\npull /b\npush /a/x 5\npull /a/x\npull /a\nlist /\nstat /b") ≡ Some
    (codes "push /a ok 0\n" ∷ codes "push /b ok 3\n" ∷ codes "pull /a ok 0 0\n" ∷ codes "pull /b ok 3 3\n"
    ∷ codes "push /a/x refused not a directory\n"
    ∷ codes "pull /a/x refused no such file\n" ∷ codes "pull /a ok 0 0\n" ∷ codes "list / 2 a:33188:0:1 b:33188:3:2\n"
    ∷ codes "stat /b 33188 3 2\n" ∷ [])
unfolding digits
pushes = refl
