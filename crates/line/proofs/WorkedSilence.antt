-- A worked silence: what the law of four intervals supposes can be met. A Live line with an interval of a second heard and sent at time 0. It is ticked
-- at 1,000, 2,000 and 3,000 milliseconds, and between the first two a step is lent no bytes, which hears nothing.
use Prim.Native.Nat.{◌+◌, ◌≤◌}
use Rattle.std.specs.Prelude.{Some}
use mathlib.Core.Path.{◌≡◌, refl}
use mathlib.Core.Bool.{false}
use mathlib.Core.List.{List, [], ◌∷◌}
use native.Mathlib.Omega.{arith}
use lib.ListN.{replicate}
use Rattle.message.specs.Frame.{comp_id_bytes, framed}
use Rattle.message.specs.Read.{read_framed, read_of}
use Rattle.message.specs.Refusal.{number_of}
use Rattle.session.specs.declared.state.State.TheVariants.{Live}
use Rattle.session.specs.Arrival.{arrival_by}
use Rattle.session.specs.Day.{drop, own_number_in, own_number, refused, arrived, step_in, step_by, step}
use Rattle.session.specs.State.{code_number, told, repeats_at, unmoved}
use Rattle.calls.specs.Steps.{is_heard}
use Rattle.line.specs.declared.line.Line.{Line}
use Rattle.line.specs.declared.tick.Act.TheVariants as act
use Rattle.line.specs.Course.{Happening, lends, ticks, after_line, Silent, none, a-tick, other, DownBy}
use Rattle.line.specs.Line.{later, is_live, goes_on, wait_since, moved_line, drop_line, is_any, step_line}
use Rattle.line.specs.Tick.{wait, reached, due_by, due_live, due_at, is_test, tested_line, id_of, own_act, numbered, tick_by, tick}
use Rattle.line.proofs.SilenceLaws.{four-intervals}

abbrev worked : Line
worked = record {
  session = record { state = Live; ours = replicate comp_id_bytes 0; expected = 1; own = 2; ahead = 0; repeats = 0 };
  interval = 1;
  now = 0;
  sent = 0;
  heard = 0;
  tested = false;
}

-- the line after each
abbrev beaten : Line
beaten = after_line worked (ticks 1000)

abbrev lent : Line
lent = after_line beaten (lends 1500 [])

abbrev asked : Line
asked = after_line lent (ticks 2000)

abbrev silence : List Happening
silence = ticks 1000 ∷ lends 1500 [] ∷ ticks 2000 ∷ ticks 3000 ∷ []

-- a Heartbeat at one second, a Test Request with its number for ID at two, and Down at three
pub worked-acts : ((tick worked 1000).act ≡ Some (act.Heartbeat 2)) × ((tick lent 2000).act ≡ Some (act.TestRequest 3 3)) × ((tick asked 3000).act ≡ Some act.Down)
unfolding after_line tick tick_by due_at due_live due_by reached wait later is_live numbered own_act id_of own_number own_number_in code_number tested_line is_test moved_line
    goes_on wait_since step_line step step_by step_in arrived arrival_by refused unmoved read_of read_framed framed number_of is_heard is_any told repeats_at
worked-acts = (refl, refl, refl)

pub worked-silent : Silent (wait worked) worked 0 silence 3000
unfolding after_line tick tick_by due_at due_live due_by reached wait later is_live numbered own_act id_of own_number own_number_in code_number tested_line is_test moved_line
    goes_on wait_since step_line step step_by step_in arrived arrival_by refused unmoved read_of read_framed framed number_of is_heard is_any told repeats_at drop_line drop
worked-silent =
    let first : later 0 1000 ≤ 0 + 1000 = omega arith in
    let second : later 1500 2000 ≤ 1000 + 1000 = omega arith in
    let third : later 2000 3000 ≤ 2000 + 1000 = omega arith in
    a-tick {l = worked} {n = 0} {t = 1000} first
    (other {l = beaten} {n = 1000} {h = lends 1500 []} (λ e. refl)
    (a-tick {l = lent} {n = 1000} {t = 2000} second (a-tick {l = asked} {n = 2000} {t = 3000} third none)))

pub worked-down : DownBy worked silence 4000
unfolding wait
worked-down = four-intervals worked 0 silence 3000 refl (omega arith) worked-silent (omega arith)
