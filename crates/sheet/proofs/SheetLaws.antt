-- Lines taken one by one: where the first line ends, what one line does to the sheet, and that what is taken and laid so far, before the sheet
use Rattle.std.proofs.Common.{Ok, Err}
-- of the bytes left, is the sheet of all.
use mathlib.Core.Path.{◌≡◌, refl, sym, ap, ap₂, ◌∙◌, subst}
use Prim.Native.Nat.{ℕ, zero, suc, ◌+◌, ◌-◌, ◌<◌, ◌≤◌}
use native.Mathlib.Nat.{sub-zero}
use native.Mathlib.Omega.{arith}
use mathlib.Core.Bool.{Bool, true, false, cond}
use mathlib.Core.List.{List, [], ◌∷◌, ◌++◌, append_assoc, append-nil}
use lib.Dec.{ltb, leb}
use lib.ListN.{length, take, drop, length-append, length-drop}
use lib.Seq.{drop-drop, drop_at, length-take-le}
use borrow.Author.Tests.{lt-ltb, le-ltb, le-leb, lt-leb, leb-true, leb-false}
use borrow.Rule.Slice.PartMut.{put_mid, put_same}
use Rattle.wire.specs.declared.laying.NotLaid.{NotLaid}
use Rattle.wire.specs.declared.laying.NotLaid.TheVariants as not_laid
use Rattle.wire.specs.Laying.{laid, laid_answer}
use Rattle.session.specs.declared.state.Session.{Session}
use Rattle.session.specs.Rules.{ruled}
use Rattle.sheet.specs.declared.line.Line.{Line}
use Rattle.std.specs.Prelude.{Option, Some, None}
use Rattle.sheet.specs.declared.sheet.End.{End}
use Rattle.sheet.specs.declared.sheet.End.TheVariants.{NoLine, NoRoom, BadLine}
use Rattle.sheet.specs.declared.sheet.Taken.{Taken}
use Rattle.sheet.specs.Line.{said_of}
use Rattle.sheet.specs.Print.{printed, printed_bad}
use Rattle.sheet.specs.Sheet.{message_of, lines_of, next_count, Sheet, ended, followed, line_said, sheet_from, sheet_of}
use Rattle.spelt.specs.Lines.{line_length}
use Rattle.wire.proofs.BufferLaws.{front-behind}
use Rattle.wire.proofs.TestLaws.{rest_of}

-- any number of lines that is not too small gives all
lines-enough : (j k : ℕ) (s : List ℕ) → length s ≤ j → length s ≤ k → lines_of j s ≡ lines_of k s
unfolding lines_of
lines-enough zero zero s a b = refl
lines-enough zero (suc k) s a b = let h : length s ≤ line_length s = omega arith in rw (le-ltb (line_length s) (length s) h)
lines-enough (suc j) zero s a b = let h : length s ≤ line_length s = omega arith in rw (le-ltb (line_length s) (length s) h)
lines-enough (suc j) (suc k) s a b =
    let d : length (drop (line_length s + 1) s) ≡ length s - (line_length s + 1) = length-drop (line_length s + 1) s in
    ap (λ (x : List (List ℕ)). cond (ltb (line_length s) (length s)) (take (line_length s) s ∷ x) []) (lines-enough j k (drop (line_length s + 1) s) (omega arith) (omega arith))

module _ (room : ℕ) (s : Session) (k : ℕ) (bytes : List ℕ) where
  -- no whole line is left
  pub sheet-none : length bytes ≤ line_length bytes → sheet_of room s k bytes ≡ ended s k NoLine
  unfolding sheet_of sheet_from lines_of
  sheet-none h = go (length bytes) refl where
    go : (n : ℕ) → length bytes ≡ n → sheet_from (lines_of n bytes) room s k ≡ ended s k NoLine
    go zero e = refl
    go (suc n) e = rw (le-ltb (line_length bytes) (length bytes) h)

  -- one line, and the lines behind it
  sheet-line : line_length bytes < length bytes
      → sheet_of room s k bytes ≡ line_said (λ r t j. sheet_of r t j (drop (line_length bytes + 1) bytes)) room s k (take (line_length bytes) bytes) (said_of (take (line_length bytes) bytes))
  unfolding sheet_of sheet_from lines_of
  sheet-line h = go (length bytes) refl where
    go : (n : ℕ) → length bytes ≡ n
        → sheet_from (lines_of n bytes) room s k ≡ line_said (λ r t j. sheet_of r t j (drop (line_length bytes + 1) bytes)) room s k (take (line_length bytes) bytes) (said_of (take (line_length bytes) bytes))
    go zero e = absurd (omega arith)
    go (suc n) e =
        let rest = drop (line_length bytes + 1) bytes in
        let d : length rest ≡ length bytes - (line_length bytes + 1) = length-drop (line_length bytes + 1) bytes in
        let l : length rest ≤ n = omega arith in
        rw (lt-ltb (line_length bytes) (length bytes) h)
        (ap (λ (ls : List (List ℕ)). line_said (sheet_from ls) room s k (take (line_length bytes) bytes) (said_of (take (line_length bytes) bytes))) (lines-enough n (length rest) rest l (omega arith)))

  -- n is the first line's length
  module _ (n : ℕ) (q : n ≡ line_length bytes) (h : n < length bytes) where
    said-line : (x : Option Line) → said_of (take n bytes) ≡ x → sheet_of room s k bytes ≡ line_said (λ r t j. sheet_of r t j (drop (n + 1) bytes)) room s k (take n bytes) x
    said-line x e =
        let l : line_length bytes < length bytes = omega arith in
        sheet-line l
        ∙ ap (λ (m : ℕ). line_said (λ r t j. sheet_of r t j (drop (m + 1) bytes)) room s k (take m bytes) (said_of (take m bytes))) (sym q)
        ∙ ap (line_said (λ r t j. sheet_of r t j (drop (n + 1) bytes)) room s k (take n bytes)) e

    module _ (l : Line) (e : said_of (take n bytes) ≡ Some l) where
      pub sheet-taken : length (printed (ruled s (message_of l))) ≤ room
          → sheet_of room s k bytes ≡ followed (take n bytes) (printed (ruled s (message_of l))) (sheet_of (room - length (printed (ruled s (message_of l)))) (ruled s (message_of l)).session (next_count k) (drop (n + 1) bytes))
      unfolding line_said
      sheet-taken f = said-line (Some l) e ∙ rw (le-leb (length (printed (ruled s (message_of l)))) room f)

      pub sheet-full : room < length (printed (ruled s (message_of l))) → sheet_of room s k bytes ≡ ended s k NoRoom
      unfolding line_said
      sheet-full f = said-line (Some l) e ∙ rw (lt-leb (length (printed (ruled s (message_of l)))) room f)

    module _ (e : said_of (take n bytes) ≡ None) where
      pub sheet-bad : length (printed_bad k) ≤ room → sheet_of room s k bytes ≡ followed (take n bytes) (printed_bad k) (ended s k BadLine)
      unfolding line_said
      sheet-bad f = said-line None e ∙ rw (le-leb (length (printed_bad k)) room f)

      pub sheet-bad-full : room < length (printed_bad k) → sheet_of room s k bytes ≡ ended s k NoRoom
      unfolding line_said
      sheet-bad-full f = said-line None e ∙ rw (lt-leb (length (printed_bad k)) room f)

-- what is taken and laid before a sheet
unfoldable pub ahead : ℕ → List ℕ → Sheet → Sheet
ahead used text rest = record {
  text = text ++ rest.text;
  taken = record {
    session = rest.taken.session;
    count = rest.taken.count;
    used = used + rest.taken.used;
    written = length text + rest.taken.written;
    end = rest.taken.end;
  };
}

ahead_none : (r : Sheet) → ahead 0 [] r ≡ r
unfolding ahead
ahead_none r =
    let u : 0 + r.taken.used ≡ r.taken.used = omega arith in
    let w : 0 + r.taken.written ≡ r.taken.written = omega arith in
    ap₂ {C = Sheet} (λ (i j : ℕ). record {
      text = r.text;
      taken = record { session = r.taken.session; count = r.taken.count; used = i; written = j; end = r.taken.end };
    }) u w

ahead_more : (a b : ℕ) (x y : List ℕ) (r : Sheet) → ahead a x (ahead b y r) ≡ ahead (a + b) (x ++ y) r
unfolding ahead
ahead_more a b x y r =
    let t : x ++ (y ++ r.text) ≡ (x ++ y) ++ r.text = sym (append_assoc x y r.text) in
    let u : a + (b + r.taken.used) ≡ (a + b) + r.taken.used = omega arith in
    let w : length x + (length y + r.taken.written) ≡ length (x ++ y) + r.taken.written = rw length-append (omega arith) in
    cc

-- what a writer's answer tells of the room
module _ (bs x : List ℕ) where
  pub answer-fits : (n : ℕ) → laid_answer bs x ≡ Ok n → (length bs ≤ length x) × (n ≡ length bs)
  unfolding laid_answer
  answer-fits n e = go (leb (length bs) (length x)) refl e where
    go : (b : Bool) → leb (length bs) (length x) ≡ b → cond b (Ok (length bs)) (Err (not_laid.NoRoom (length bs))) ≡ Ok n → (length bs ≤ length x) × (n ≡ length bs)
    go true f e = (leb-true (length bs) (length x) f, cc)
    go false f e = let z : ◌≡◌ {A = ℕ} 0 1 = cc in absurd (omega arith)

  pub answer-full : (e : NotLaid) → laid_answer bs x ≡ Err e → length x < length bs
  unfolding laid_answer
  answer-full n e = go (leb (length bs) (length x)) refl e where
    go : (b : Bool) → leb (length bs) (length x) ≡ b → cond b (Ok (length bs)) (Err (not_laid.NoRoom (length bs))) ≡ Err n → length x < length bs
    go true f e = let z : ◌≡◌ {A = ℕ} 0 1 = cc in absurd (omega arith)
    go false f e = leb-false (length bs) (length x) f

-- the text laid at the front of d₀ makes d; more bytes bs go into its part from w on, and y is that part afterwards
module _ (d₀ d text bs y : List ℕ) (w : ℕ) (q : w ≡ length text) (f : length text ≤ length d₀) (e : d ≡ text ++ drop (length text) d₀)
    (p : y ≡ laid bs (take (length d - w) (drop w d))) where
  behind : drop w d ≡ drop (length text) d₀
  behind = ap₂ (λ (i : ℕ) (x : List ℕ). drop i x) q e ∙ drop_at text (drop (length text) d₀) (length text) refl

  pub room-left : length (take (length d - w) (drop w d)) ≡ length d₀ - length text
  room-left = ap length (rest_of d w ∙ behind) ∙ length-drop (length text) d₀

  pub laid-full : length d₀ - length text < length bs → put_mid w (length d - w) d y ≡ d
  unfolding laid
  laid-full h =
      let x = take (length d - w) (drop w d) in
      let l : length x < length bs = omega (arith, room-left) in
      let s : y ≡ x = p ∙ rw (lt-leb (length bs) (length x) l) in
      ap (put_mid w (length d - w) d) s ∙ put_same w (length d - w) d

  pub laid_next : length bs ≤ length d₀ - length text → put_mid w (length d - w) d y ≡ (text ++ bs) ++ drop (length (text ++ bs)) d₀
  unfolding laid
  laid_next h =
      let x = take (length d - w) (drop w d) in
      let l : length bs ≤ length x = omega (arith, room-left) in
      front-behind text bs d₀ d y w (sym q) (omega arith) e (p ∙ rw (le-leb (length bs) (length x) l) refl)

-- the lines before `used` are taken, and what they print is laid in d
pub record Taking (d₀ bytes : List ℕ) (s₀ : Session) (k₀ : ℕ) (d : List ℕ) (s : Session) (k used written : ℕ) : Type 0 where
  pub text : List ℕ
  pub wrote : written ≡ length text
  pub fits : length text ≤ length d₀
  pub lies : d ≡ text ++ drop (length text) d₀
  pub within : used ≤ length bytes
  pub same : ahead used text (sheet_of (length d₀ - length text) s k (drop used bytes)) ≡ sheet_of (length d₀) s₀ k₀ bytes

-- what a call that ends owes: the answer, and the buffer afterwards
pub record Owed (d₀ bytes : List ℕ) (s₀ : Session) (k₀ : ℕ) (end : Taken) (d : List ℕ) : Type 0 where
  pub answer : end ≡ (sheet_of (length d₀) s₀ k₀ bytes).taken
  pub buffer : d ≡ (sheet_of (length d₀) s₀ k₀ bytes).text ++ drop (length (sheet_of (length d₀) s₀ k₀ bytes).text) d₀

module _ (d₀ bytes : List ℕ) (s₀ : Session) (k₀ : ℕ) where
  pub taking-none : Taking d₀ bytes s₀ k₀ d₀ s₀ k₀ 0 0
  taking-none = record {
    text = [];
    wrote = refl;
    fits = omega arith;
    lies = refl;
    within = omega arith;
    same = ahead_none (sheet_of (length d₀ - 0) s₀ k₀ bytes) ∙ ap (λ (r : ℕ). sheet_of r s₀ k₀ bytes) (sub-zero (length d₀));
  }

  module _ (d : List ℕ) (s : Session) (k used written : ℕ) (t : Taking d₀ bytes s₀ k₀ d s k used written) where
    -- r is the sheet of the bytes left
    finish : (r : Sheet) → sheet_of (length d₀ - length t.text) s k (drop used bytes) ≡ r → (end : Taken) → end ≡ (ahead used t.text r).taken
        → (d' : List ℕ) → d' ≡ (t.text ++ r.text) ++ drop (length (t.text ++ r.text)) d₀ → Owed d₀ bytes s₀ k₀ end d'
    unfolding ahead
    finish r e end p d' q =
        let z : ahead used t.text r ≡ sheet_of (length d₀) s₀ k₀ bytes = sym (ap (ahead used t.text) e) ∙ t.same in
        record { answer = p ∙ ap (λ (x : Sheet). x.taken) z; buffer = q ∙ ap (λ (x : Sheet). x.text ++ drop (length x.text) d₀) z }

    -- it ends before the next line
    stop : (why : End) → sheet_of (length d₀ - length t.text) s k (drop used bytes) ≡ ended s k why
        → Owed d₀ bytes s₀ k₀ (record { session = s; count = k; used = used; written = written; end = why }) d
    unfolding ended ahead
    stop why e =
        let u : used + 0 ≡ used = omega arith in
        let w : length t.text + 0 ≡ written = omega (arith, t.wrote) in
        let n : t.text ++ [] ≡ t.text = append-nil t.text in
        finish (ended s k why) e (record { session = s; count = k; used = used; written = written; end = why }) (cc) d
        (t.lies ∙ ap (λ (x : List ℕ). x ++ drop (length x) d₀) (sym n))

    -- the bytes left are lent, and n is the first line's length
    module _ (n : ℕ) (q : n ≡ line_length (take (length bytes - used) (drop used bytes))) where
      lent : take (length bytes - used) (drop used bytes) ≡ drop used bytes
      lent = rest_of bytes used

      pub take_none : n ≡ length (take (length bytes - used) (drop used bytes))
          → Owed d₀ bytes s₀ k₀ (record { session = s; count = k; used = used; written = written; end = NoLine }) d
      take_none h =
          let l : length (drop used bytes) ≤ line_length (drop used bytes) = omega (arith, ap length lent, ap line_length lent) in
          stop NoLine (sheet-none (length d₀ - length t.text) s k (drop used bytes) l)

      module _ (h : n < length (take (length bytes - used) (drop used bytes))) where
        q' : n ≡ line_length (drop used bytes)
        q' = q ∙ ap line_length lent

        h' : n < length (drop used bytes)
        h' = rw lent at h

        said' : (x : Option Line) → said_of (take n (take (length bytes - used) (drop used bytes))) ≡ x → said_of (take n (drop used bytes)) ≡ x
        said' x e = ap (λ (z : List ℕ). said_of (take n z)) (sym lent) ∙ e

        -- y is the part of the buffer behind what is written, after the writer
        module _ (y : List ℕ) where
          pub take-bad : said_of (take n (take (length bytes - used) (drop used bytes))) ≡ None → y ≡ laid (printed_bad k) (take (length d - written) (drop written d))
              → length (printed_bad k) ≤ length (take (length d - written) (drop written d)) → (m : ℕ) → m ≡ length (printed_bad k)
              → Owed d₀ bytes s₀ k₀ (record { session = s; count = k; used = used + (n + 1); written = written + m; end = BadLine }) (put_mid written (length d - written) d y)
          unfolding followed ended ahead
          take-bad e p f m a =
              let bs = printed_bad k in
              let line = take n (drop used bytes) in
              let left : length (take (length d - written) (drop written d)) ≡ length d₀ - length t.text = room-left d₀ d t.text bs y written t.wrote t.fits t.lies p in
              let room : length bs ≤ length d₀ - length t.text = omega arith in
              let nl : length line ≡ n = length-take-le n (drop used bytes) (omega (arith, h')) in
              let u : used + (length line + 1 + 0) ≡ used + (n + 1) = omega arith in
              let w : length t.text + (length bs + 0) ≡ written + m = omega (arith, t.wrote) in
              let z : t.text ++ (bs ++ []) ≡ t.text ++ bs = ap (λ (x : List ℕ). t.text ++ x) (append-nil bs) in
              finish (followed line bs (ended s k BadLine)) (sheet-bad (length d₀ - length t.text) s k (drop used bytes) n q' h' (said' None e) room)
              (record { session = s; count = k; used = used + (n + 1); written = written + m; end = BadLine }) (cc)
              (put_mid written (length d - written) d y)
              (laid_next d₀ d t.text bs y written t.wrote t.fits t.lies p room ∙ ap (λ (x : List ℕ). x ++ drop (length x) d₀) (sym z))

          pub take-bad-full : said_of (take n (take (length bytes - used) (drop used bytes))) ≡ None → y ≡ laid (printed_bad k) (take (length d - written) (drop written d))
              → length (take (length d - written) (drop written d)) < length (printed_bad k)
              → Owed d₀ bytes s₀ k₀ (record { session = s; count = k; used = used; written = written; end = NoRoom }) (put_mid written (length d - written) d y)
          take-bad-full e p f =
              let bs = printed_bad k in
              let left : length (take (length d - written) (drop written d)) ≡ length d₀ - length t.text = room-left d₀ d t.text bs y written t.wrote t.fits t.lies p in
              let room : length d₀ - length t.text < length bs = omega arith in
              subst (λ (x : List ℕ). Owed d₀ bytes s₀ k₀ (record { session = s; count = k; used = used; written = written; end = NoRoom }) x)
              (sym (laid-full d₀ d t.text bs y written t.wrote t.fits t.lies p room))
              (stop NoRoom (sheet-bad-full (length d₀ - length t.text) s k (drop used bytes) n q' h' (said' None e) room))

          -- a good line, and the step that it makes
          module _ (l : Line) (e : said_of (take n (take (length bytes - used) (drop used bytes))) ≡ Some l) (p : y ≡ laid (printed (ruled s (message_of l))) (take (length d - written) (drop written d))) where
            pub take-full : length (take (length d - written) (drop written d)) < length (printed (ruled s (message_of l)))
                → Owed d₀ bytes s₀ k₀ (record { session = s; count = k; used = used; written = written; end = NoRoom }) (put_mid written (length d - written) d y)
            take-full f =
                let bs = printed (ruled s (message_of l)) in
                let left : length (take (length d - written) (drop written d)) ≡ length d₀ - length t.text = room-left d₀ d t.text bs y written t.wrote t.fits t.lies p in
                let room : length d₀ - length t.text < length bs = omega arith in
                subst (λ (x : List ℕ). Owed d₀ bytes s₀ k₀ (record { session = s; count = k; used = used; written = written; end = NoRoom }) x)
                (sym (laid-full d₀ d t.text bs y written t.wrote t.fits t.lies p room))
                (stop NoRoom (sheet-full (length d₀ - length t.text) s k (drop used bytes) n q' h' l (said' (Some l) e) room))

            pub take-line : length (printed (ruled s (message_of l))) ≤ length (take (length d - written) (drop written d)) → (m : ℕ) → m ≡ length (printed (ruled s (message_of l)))
                → Taking d₀ bytes s₀ k₀ (put_mid written (length d - written) d y) (ruled s (message_of l)).session (next_count k) (used + (n + 1)) (written + m)
            unfolding followed ahead
            take-line f m a =
                let bs = printed (ruled s (message_of l)) in
                let line = take n (drop used bytes) in
                let left : length (take (length d - written) (drop written d)) ≡ length d₀ - length t.text = room-left d₀ d t.text bs y written t.wrote t.fits t.lies p in
                let room : length bs ≤ length d₀ - length t.text = omega arith in
                let nl : length line ≡ n = length-take-le n (drop used bytes) (omega (arith, h')) in
                let ld : length (drop used bytes) ≡ length bytes - used = length-drop used bytes in
                let lt : length (t.text ++ bs) ≡ length t.text + length bs = length-append t.text bs in
                let r : (length d₀ - length t.text) - length bs ≡ length d₀ - length (t.text ++ bs) = omega arith in
                let rest = sheet_of ((length d₀ - length t.text) - length bs) (ruled s (message_of l)).session (next_count k) (drop (n + 1) (drop used bytes)) in
                record {
                  text = t.text ++ bs;
                  wrote = omega (arith, t.wrote);
                  fits = omega (arith, t.fits);
                  lies = laid_next d₀ d t.text bs y written t.wrote t.fits t.lies p room;
                  within = omega (arith, h');
                  same =
                      ap₂ (λ (i : ℕ) (x : List ℕ). ahead (used + (n + 1)) (t.text ++ bs) (sheet_of i (ruled s (message_of l)).session (next_count k) x)) (sym r) (sym (drop-drop (n + 1) used bytes))
                      ∙ sym (ahead_more used (n + 1) t.text bs rest)
                      ∙ ap (λ (i : ℕ). ahead used t.text (ahead (i + 1) bs rest)) (sym nl)
                      ∙ ap (ahead used t.text) (sym (sheet-taken (length d₀ - length t.text) s k (drop used bytes) n q' h' l (said' (Some l) e) room))
                      ∙ t.same;
                }

-- the buffer keeps its length, and what is written lies within
pub taking-length : (d₀ bytes : List ℕ) (s₀ : Session) (k₀ : ℕ) (d : List ℕ) (s : Session) (k used written : ℕ) → Taking d₀ bytes s₀ k₀ d s k used written
    → (length d ≡ length d₀) × (written ≤ length d)
taking-length d₀ bytes s₀ k₀ d s k used written t =
    let e : length d ≡ length t.text + length (drop (length t.text) d₀) = ap length t.lies ∙ length-append t.text (drop (length t.text) d₀) in
    let f : length (drop (length t.text) d₀) ≡ length d₀ - length t.text = length-drop (length t.text) d₀ in
    let g : length t.text ≤ length d₀ = t.fits in
    let w : written ≡ length t.text = t.wrote in
    (omega arith, omega arith)

pub lent_length : (used : ℕ) (bytes : List ℕ) → length (take (length bytes - used) (drop used bytes)) ≡ length bytes - used
lent_length used bytes = ap length (rest_of bytes used) ∙ length-drop used bytes
