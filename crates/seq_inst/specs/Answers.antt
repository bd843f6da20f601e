-- Answers of tests.
use Rattle.std.specs.Prelude.{Bool, true, false}
use Rattle.seq_inst.specs.declared.parts.Answer.{Answer}
use Rattle.seq_inst.specs.declared.parts.Answer.TheVariants.{Pass, Fail}

-- whether the answer is that the test passes
abbrev pub is_pass : Answer → Bool
is_pass Pass = true
is_pass Fail = false
