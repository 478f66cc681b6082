use Rattle.std.proofs.Common.{◌≡◌, ℕ, zero, suc, ◌+◌, ◌*◌, ◌/◌, ◌<◌, List, [], length, get_or, take, drop, refl, ap, subst, ◌∙◌, arith, drop-drop}
use Rattle.std.proofs.lemmas.List.{get_or-drop}
use Rattle.std.specs.Simd.{first_chunks}
use Rattle.crc.proofs.Linear.{Reached, reached-byte, reached-part}
use Rattle.crc.proofs.Division.{reached-sum}
use Rattle.crc.specs.Register.{register, byte_step}
use Rattle.crc.proofs.crc32c.Goals as goal

-- the word at a place
word-at : (k i : ℕ) (s d : List ℕ) → i < k → get_or (first_chunks 8 k s) i d ≡ take 8 (drop (i * 8) s)
word-at zero i s d h = absurd (omega arith)
word-at (suc k) zero s d h = refl
word-at (suc k) (suc i) s d h =
    let e : 8 + i * 8 ≡ suc i * 8 = omega arith in
    word-at k i (drop 8 s) d (omega arith) ∙ ap (take 8) (drop-drop (i * 8) 8 s ∙ ap (λ (j : ℕ). drop j s) e)

pub loop-word-preserved : goal.loop-word-preserved
loop-word-preserved c =
    let l = c.loop-word in
    let s = c.args.s.now in
    let e : l.word-index * 8 + 8 ≡ (l.word-index + 1) * 8 = omega arith in
    let h : l.word-index < length s / 8 = omega arith in
    let word = ap (λ (words : List (List ℕ)). get_or words l.word-index []) c.as_chunks.ensures.front ∙ word-at (length s / 8) l.word-index s [] h in
    subst (Reached s c.word_step-c.result) e
    (reached-part s l.c (l.word-index * 8) l.invariant 8 c.word_step-c.result (c.word_step-c.ensures ∙ ap (register l.c) word))

pub loop-b-preserved : goal.loop-b-preserved
loop-b-preserved c =
    let l = c.loop-b in
    let s = c.args.s.now in
    let i = length s / 8 * 8 in
    let e : i + l.b-index + 1 ≡ i + (l.b-index + 1) = omega arith in
    let byte = ap (λ (rest : List ℕ). get_or rest l.b-index 0) c.as_chunks.ensures.back ∙ get_or-drop i s l.b-index 0 in
    subst (Reached s c.table_step-c.result) e
    (reached-byte s l.c (i + l.b-index) l.invariant c.table_step-c.result (omega arith) (c.table_step-c.ensures ∙ ap (byte_step l.c) byte))

pub returns : goal.returns
returns c = c.complement.ensures ∙ reached-sum _ _ _ (λ k. (c.type_inv.s k).fits) c.loop-b.invariant (omega arith)
