-- The interface's version, 4.2.0: 10,000 times the first number, 100 times the second, and the third.
use Rattle.std.specs.Prelude.{ℕ}

abbrev pub version : ℕ
version = 40200
