-- `crc::byte_step`: the steps that are left of the eight give the same from the present register.
use Rattle.std.proofs.Common.{◌≡◌, ◌-◌}
use Rattle.rows.specs.Steps.{steps}
use Rattle.crc.specs.Register.{byte_step}
use Rattle.crc.proofs.byte_step.Given as goal

abbrev pub invariant-loop : goal.invariant-loop
invariant-loop l = steps (8 - l.counter) l.x ≡ byte_step l.c l.b
