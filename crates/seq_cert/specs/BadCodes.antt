-- The word by which the code of a bad line is written.
use Rattle.std.specs.Prelude.{ℕ, List, codes}
use Rattle.seq_cert.specs.declared.fault.BadCode.{BadCode}
use Rattle.seq_cert.specs.declared.fault.BadCode.TheVariants.{C01, C02, C03, C04, C05, C06, C07, C08, C09}

abbrev pub bad_word : BadCode → List ℕ
bad_word C01 = codes "C01"
bad_word C02 = codes "C02"
bad_word C03 = codes "C03"
bad_word C04 = codes "C04"
bad_word C05 = codes "C05"
bad_word C06 = codes "C06"
bad_word C07 = codes "C07"
bad_word C08 = codes "C08"
bad_word C09 = codes "C09"
