-- What daysheet's quick recorder prints of good lines is what the plain one prints (document 02, item 11): the sheet is the fold of the session's
-- steps, line by line, and each step is printed as the plain recorder's answer is.
use Prim.Native.Nat.{ℕ, ◌-◌}
use mathlib.Core.Path.{◌≡◌, refl, sym, ap, ap₂, subst, ◌∙◌}
use mathlib.Core.Bool.{Bool, true, false, cond}
use mathlib.Core.List.{List, [], ◌∷◌, ◌++◌, append_assoc, append-nil}
use native.Mathlib.Omega.{arith}
use lib.Dec.{leb}
use lib.ListN.{length}
use Rattle.wire.specs.Spelled.{spelled}
use Rattle.spelt.specs.Spelt.{digits, number_text}
use Rattle.session.specs.declared.state.Session.{Session}
use Rattle.session.specs.declared.state.Stepped.{Stepped}
use Rattle.session.specs.Rules.{ruled}
use Rattle.session.specs.State.{unmoved}
use Rattle.sheet.specs.declared.line.Line.{Line}
use Rattle.std.specs.Prelude.{Some, None}
use Rattle.sheet.specs.declared.sheet.End.TheVariants.{NoLine, NoRoom}
use Rattle.sheet.specs.Line.{said_of}
use Rattle.sheet.specs.Print.{printed, counted_text, printed_full}
use Rattle.sheet.specs.Sheet.{begun, message_of, lines_of, next_count, Sheet, ended, followed, line_said, sheet_from, sheet_of}
use Rattle.plain.specs.Arrivals.{arrived_number}
use Rattle.plain.specs.Both.{steps_from, quick, session_of, Reads, none, next, plain_text}
use Rattle.plain.specs.Plain.{worked_out}
use Rattle.plain.proofs.SameLaws.{same, printed-same}

-- the last line is a step on the session that the lines before it left
steps-last : (u : Stepped) (ls : List Line) (l : Line) → steps_from u (ls ++ l ∷ []) ≡ ruled (steps_from u ls).session (message_of l)
unfolding steps_from
steps-last u [] l = refl
steps-last u (h ∷ ls) l = steps-last (ruled u.session (message_of h)) ls l

quick-last : (ls : List Line) (l : Line) → quick (ls ++ l ∷ []) ≡ ruled (quick ls).session (message_of l)
unfolding quick
quick-last ls l = steps-last _ ls l

-- a sheet that follows the lines before it, if it comes to its end: what the plain recorder prints of these lines
record Prints (before ls : List Line) (r : Sheet) : Type 0 where
  pub session : r.taken.end ≡ NoLine → r.taken.session ≡ (quick (before ++ ls)).session
  pub text : r.taken.end ≡ NoLine → r.text ≡ plain_text before ls

no_room : NoRoom ≡ NoLine → ⊥
no_room e = let z : ◌≡◌ {A = ℕ} 0 1 = cc in absurd (omega arith)

module _ (before ls : List Line) (l : Line) (line : List ℕ) where
  abbrev u : Stepped
  u = quick (before ++ l ∷ [])

  -- a line without room does not let the sheet come to its end
  either_way : (b : Bool) (r : Sheet) (s : Session) (k : ℕ) → Prints (before ++ l ∷ []) ls r
      → Prints before (l ∷ ls) (cond b (followed line (printed u) r) (ended s k NoRoom))
  unfolding followed ended plain_text
  either_way true r s k p = record {
    session = λ e. p.session e ∙ ap (λ (x : List Line). (quick x).session) (append_assoc before (l ∷ []) ls);
    text = λ e. ap₂ (λ (x y : List ℕ). x ++ y) (sym (printed-same (same (before ++ l ∷ [])))) (p.text e);
  }
  either_way false r s k p = record { session = λ e. absurd (no_room e); text = λ e. absurd (no_room e) }

  module _ (rest : ℕ → Session → ℕ → Sheet) (room k : ℕ) where
    abbrev s : Session
    s = (quick before).session

    -- what the sheet makes of a good line, by its step
    abbrev stepped : Stepped → Sheet
    stepped t =
        cond (leb (length (printed t)) room) (followed line (printed t) (rest (room - length (printed t)) t.session (next_count k))) (ended s k NoRoom)

    one_line : said_of line ≡ Some l → ((j i : ℕ) → Prints (before ++ l ∷ []) ls (rest j u.session i))
        → Prints before (l ∷ ls) (line_said rest room s k line (said_of line))
    unfolding line_said
    one_line q f =
        subst (Prints before (l ∷ ls)) (ap stepped (quick-last before l) ∙ ap (line_said rest room s k line) (sym q))
        (either_way (leb (length (printed u)) room) _ s k (f (room - length (printed u)) (next_count k)))

sheet-from : {lines : List (List ℕ)} {ls : List Line} → Reads lines ls → (before : List Line) (room k : ℕ)
    → Prints before ls (sheet_from lines room (quick before).session k)
unfolding sheet_from ended plain_text
sheet-from none before room k = record { session = λ e. ap (λ (x : List Line). (quick x).session) (sym (append-nil before)); text = λ e. refl }
sheet-from (next {b} {bs} {l} {ls} q r) before room k = one_line before ls l b (sheet_from bs) room k q (sheet-from r (before ++ l ∷ []))

-- what daysheet's quick recorder prints of a sheet of good lines, all of which found room, is what the plain one prints, and it leaves the session
-- that the plain one has
pub sheet-same : (room : ℕ) (bytes : List ℕ) (ls : List Line) → Reads (lines_of (length bytes) bytes) ls
    → (sheet_of room begun 1 bytes).taken.end ≡ NoLine
    → ((sheet_of room begun 1 bytes).taken.session ≡ session_of (worked_out ls).day) × ((sheet_of room begun 1 bytes).text ≡ plain_text [] ls)
unfolding sheet_of quick steps_from unmoved
sheet-same room bytes ls r e =
    let p : Prints [] ls (sheet_from (lines_of (length bytes) bytes) room begun 1) = sheet-from r [] room 1 in
    (p.session e ∙ (same ls).session, p.text e)

-- the line of one that is refused says its number
pub full-says : (k : ℕ) → printed_full k ≡ spelled "refused=" ++ (number_text (arrived_number None) ++ (spelled " line=" ++ (number_text k ++ 10 ∷ [])))
unfolding printed_full counted_text arrived_number spelled number_text digits
full-says k = refl
