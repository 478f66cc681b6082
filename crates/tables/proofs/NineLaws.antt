-- What the nine tables say one by one, from what they say together: which of them name a position, and which require it. Assumes nothing.
use Rattle.std.specs.Prelude.{Some, None}
use mathlib.Core.Path.{◌≡◌, refl, sym, ap, subst, ◌∙◌}
use mathlib.Core.Bool.{Bool, true, false, cond, not, ◌||◌, true≢false}
use mathlib.Core.List.{List, [], ◌∷◌}
use Prim.Native.Nat.{ℕ, zero, suc, ◌-◌, ◌≤◌, ◌<◌}
use native.Mathlib.Omega.{arith}
use lib.Dec.{eqb, leb, ltb}
use lib.ListN.{length}
use borrow.Author.Tests.{eqb-true, eqb-false, ne_eqb, ltb-true, ltb-false}
use Rattle.wire.proofs.TestLaws.{both}
use Rattle.tables.specs.declared.dictionary.Field.{Field}
use Rattle.tables.specs.declared.table.Row.{Row}
use Rattle.tables.specs.declared.table.Row.TheVariants.{Required, Optional, UnknownPosition, UnknownType}
use Rattle.tables.specs.Agree.{row_in_table, nine_row, Names, names-required, names-optional}
use Rattle.tables.specs.Line.{Line, field_of, is_known, is_required, row_at, span}
use Rattle.tables.specs.Reports.{
  reports,
  add_line,
  column,
  nine_tables,
  not_required,
  joined,
  union_at,
  union_span,
}
use Rattle.tables.specs.Tables.{tables_of, row_of, span_of}
use Rattle.tables.proofs.Absent.{among}
use Rattle.tables.proofs.Agree.{nine-in-report}
use Rattle.tables.proofs.Span.{beyond-span}

-- a test of every number below n, and of every table at every position below 44
abbrev all_below : ℕ → (ℕ → Bool) → Bool
all_below zero f = true
all_below (suc n) f = cond (f n) (all_below n f) false

abbrev same_bool : Bool → Bool → Bool
same_bool true b = b
same_bool false b = not b

all-below : (n : ℕ) (f : ℕ → Bool) → all_below n f ≡ true → (p : ℕ) → p < n → f p ≡ true
all-below zero f e p h = absurd (omega arith)
all-below (suc n) f e p h = go (eqb p n) refl (λ i. all-below n f (both (f n) (all_below n f) e).1 p i)
  where
    go : (b : Bool) → eqb p n ≡ b → (p < n → f p ≡ true) → f p ≡ true
    go true t g = ap f (eqb-true p n t) ∙ (both (f n) (all_below n f) e).0
    go false t g = g (omega (arith, eqb-false p n t))

same_bool-is : (a b : Bool) → same_bool a b ≡ true → a ≡ b
same_bool-is true true e = refl
same_bool-is true false e = sym e
same_bool-is false true e = e
same_bool-is false false e = refl

abbrev nine_same : (ℕ → ℕ → Bool) → (ℕ → ℕ → Bool) → Bool
nine_same f g = all_below 44 (λ p. all_below 9 (λ j. same_bool (f (suc j) p) (g (suc j) p)))

nine-same : (f g : ℕ → ℕ → Bool) → nine_same f g ≡ true → (k p : ℕ) → 1 ≤ k → k ≤ 9 → p < 44 → f k p ≡ g k p
nine-same f g e zero p l h b = absurd (omega arith)
nine-same f g e (suc j) p l h b =
    let x = all-below 44 (λ (q : ℕ). all_below 9 (λ i. same_bool (f (suc i) q) (g (suc i) q))) e p b in
    same_bool-is (f (suc j) p) (g (suc j) p) (all-below 9 (λ (i : ℕ). same_bool (f (suc i) p) (g (suc i) p)) x j (omega arith))

-- the positions that some of the nine name and some do not, with those that do; the positions that some require and some do not
abbrev pub some : List ℕ
some = 8 ∷ 16 ∷ 17 ∷ 20 ∷ 28 ∷ 30 ∷ 31 ∷ 32 ∷ 33 ∷ 34 ∷ 35 ∷ 38 ∷ 39 ∷ 42 ∷ 43 ∷ []

abbrev pub named_by : ℕ → ℕ → Bool
named_by k p =
    cond (eqb p 8) (eqb k 2 || eqb k 5) (
    cond (eqb p 16) (leb k 7) (
    cond (eqb p 17) (leb k 7) (
    cond (eqb p 20) (eqb k 4) (
    cond (eqb p 28) (eqb k 3 || eqb k 7 || eqb k 9) (
    cond (eqb p 30) (eqb k 6) (
    cond (eqb p 31) (eqb k 6 || eqb k 8) (
    cond (eqb p 32) (leb 6 k) (
    cond (eqb p 33) (leb 6 k) (
    cond (eqb p 34) (eqb k 7 || eqb k 9) (
    cond (eqb p 35) (leb 6 k) (
    cond (eqb p 38) (eqb k 6 || eqb k 8) (
    cond (eqb p 39) (eqb k 8) (
    cond (eqb p 42) (eqb k 6)
    (eqb k 1 || eqb k 3 || eqb k 5))))))))))))))

abbrev pub marks : List ℕ
marks = 32 ∷ 33 ∷ 34 ∷ []

abbrev pub marked_by : ℕ → ℕ → Bool
marked_by k p = cond (eqb p 34) (eqb k 7 || eqb k 9) (eqb k 6 || eqb k 8)

-- what the code gives, and what the tables say
abbrev named : ℕ → ℕ → Bool
named k p = cond (among p some) (named_by k p) (is_known (row_of 10 p))

abbrev marked : ℕ → ℕ → Bool
marked k p = cond (among p marks) (marked_by k p) (is_required (row_of 10 p))

abbrev known : ℕ → ℕ → Bool
known k p = is_known (nine_row k p)

abbrev required : ℕ → ℕ → Bool
required k p = is_required (nine_row k p)

known-pass : nine_same named known ≡ true
unfolding is_known is_required nine_row row_in_table row_of tables_of union_at joined not_required row_at nine_tables reports add_line column
known-pass = refl

required-pass : nine_same marked required ≡ true
unfolding is_known is_required nine_row row_in_table row_of tables_of union_at joined not_required row_at nine_tables reports add_line column
required-pass = refl

-- rows and the fields that they name
one_name : {r : Row} {f g : Field} → Names r f → Names r g → f ≡ g
one_name names-required names-required = refl
one_name names-optional names-optional = refl

known-named : {r : Row} {f : Field} → Names r f → is_known r ≡ true
unfolding is_known
known-named names-required = refl
known-named names-optional = refl

not-required : (r : Row) → is_known r ≡ false → is_required r ≡ false
unfolding is_known is_required
not-required (Required f) e = e
not-required (Optional f) e = refl
not-required UnknownPosition e = refl
not-required UnknownType e = refl

-- a position that one of the nine names is known to the report
pub known-in-report : (k p : ℕ) → is_known (nine_row k p) ≡ true → is_known (row_of 10 p) ≡ true
unfolding is_known
known-in-report k p = go (nine_row k p) (nine-in-report k p)
  where
    go : (r : Row) → ((f : Field) → Names r f → Names (row_of 10 p) f) → is_known r ≡ true → is_known (row_of 10 p) ≡ true
    go (Required f) g e = known-named (g f names-required)
    go (Optional f) g e = known-named (g f names-optional)
    go UnknownPosition g e = absurd (true≢false (sym e))
    go UnknownType g e = absurd (true≢false (sym e))

unknown-in-nine : (k p : ℕ) → is_known (row_of 10 p) ≡ false → is_known (nine_row k p) ≡ false
unknown-in-nine k p h = go (is_known (nine_row k p)) refl
  where
    go : (b : Bool) → is_known (nine_row k p) ≡ b → b ≡ false
    go true e = absurd (true≢false (sym (known-in-report k p e) ∙ h))
    go false e = refl

report-span : span_of 10 ≡ 44
unfolding span_of union_span span tables_of nine_tables reports add_line column
report-span = refl

beyond : (p : ℕ) → ltb p 44 ≡ false → is_known (row_of 10 p) ≡ false
beyond p e = beyond-span 10 p (omega (arith, report-span, ltb-false p 44 e))

module _ (k p : ℕ) (l : 1 ≤ k) (h : k ≤ 9) where
  -- at one of those positions; at any other, as the report's table
  pub some_known : p < 44 → among p some ≡ true → named_by k p ≡ is_known (nine_row k p)
  some_known b e = ap (λ (t : Bool). cond t (named_by k p) (is_known (row_of 10 p))) (sym e) ∙ nine-same named known known-pass k p l h b

  pub other-known : among p some ≡ false → is_known (row_of 10 p) ≡ is_known (nine_row k p)
  other-known e = go (ltb p 44) refl
    where
      go : (b : Bool) → ltb p 44 ≡ b → is_known (row_of 10 p) ≡ is_known (nine_row k p)
      go true t = ap (λ (x : Bool). cond x (named_by k p) (is_known (row_of 10 p))) (sym e) ∙ nine-same named known known-pass k p l h (ltb-true p 44 t)
      go false t = beyond p t ∙ sym (unknown-in-nine k p (beyond p t))

  pub some-required : p < 44 → among p marks ≡ true → marked_by k p ≡ is_required (nine_row k p)
  some-required b e = ap (λ (t : Bool). cond t (marked_by k p) (is_required (row_of 10 p))) (sym e) ∙ nine-same marked required required-pass k p l h b

  pub other-required : among p marks ≡ false → is_required (row_of 10 p) ≡ is_required (nine_row k p)
  other-required e = go (ltb p 44) refl
    where
      go : (b : Bool) → ltb p 44 ≡ b → is_required (row_of 10 p) ≡ is_required (nine_row k p)
      go true t = ap (λ (x : Bool). cond x (marked_by k p) (is_required (row_of 10 p))) (sym e) ∙ nine-same marked required required-pass k p l h (ltb-true p 44 t)
      go false t = not-required (row_of 10 p) (beyond p t) ∙ sym (not-required (nine_row k p) (unknown-in-nine k p (beyond p t)))

-- a known row is the report's field with its own mark
pub by-mark : (k p : ℕ) (f : Field) → is_known (nine_row k p) ≡ true → Names (row_of 10 p) f
    → cond (is_required (nine_row k p)) (Required f) (Optional f) ≡ nine_row k p
unfolding is_known is_required
by-mark k p f e n = go (nine_row k p) (nine-in-report k p) e
  where
    go : (r : Row) → ((g : Field) → Names r g → Names (row_of 10 p) g) → is_known r ≡ true → cond (is_required r) (Required f) (Optional f) ≡ r
    go (Required g) m t = ap Required (one_name n (m g names-required))
    go (Optional g) m t = ap Optional (one_name n (m g names-optional))
    go UnknownPosition m t = absurd (true≢false (sym t))
    go UnknownType m t = absurd (true≢false (sym t))

-- every line of a table names a field, so that a row that is not known is that of an unknown position
abbrev all_known : List Line → Bool
all_known [] = true
all_known (l ∷ ls) = cond (is_known l.row) (all_known ls) false

abbrev tables_known : List (List Line) → Bool
tables_known [] = true
tables_known (t ∷ ts) = cond (all_known t) (tables_known ts) false

line-unknown : (t : List Line) (p : ℕ) → all_known t ≡ true → is_known (row_at t p) ≡ false → UnknownPosition ≡ row_at t p
unfolding row_at
line-unknown [] p a e = refl
line-unknown (l ∷ ls) p a e = go (eqb p l.position) e (λ i. line-unknown ls p (both (is_known l.row) (all_known ls) a).1 i)
  where
    go : (b : Bool) → is_known (cond b l.row (row_at ls p)) ≡ false → (is_known (row_at ls p) ≡ false → UnknownPosition ≡ row_at ls p)
        → UnknownPosition ≡ cond b l.row (row_at ls p)
    go true i f = absurd (true≢false (sym (both (is_known l.row) (all_known ls) a).0 ∙ i))
    go false i f = f i

table-unknown : (ts : List (List Line)) (k p : ℕ) → tables_known ts ≡ true → 1 ≤ k → k ≤ length ts → is_known (row_in_table ts k p) ≡ false
    → UnknownPosition ≡ row_in_table ts k p
unfolding row_in_table
table-unknown [] k p a l h e = absurd (omega arith)
table-unknown (t ∷ ts) k p a l h e =
    let v = both (all_known t) (tables_known ts) a in
    go (eqb k 1) refl e (line-unknown t p v.0) (λ i. table-unknown ts (k - 1) p v.1 i (omega arith))
  where
    go : (b : Bool) → eqb k 1 ≡ b → is_known (cond b (row_at t p) (row_in_table ts (k - 1) p)) ≡ false → (is_known (row_at t p) ≡ false → UnknownPosition ≡ row_at t p)
        → (1 ≤ k - 1 → is_known (row_in_table ts (k - 1) p) ≡ false → UnknownPosition ≡ row_in_table ts (k - 1) p)
        → UnknownPosition ≡ cond b (row_at t p) (row_in_table ts (k - 1) p)
    go true s i f g = f i
    go false s i f g = g (omega (arith, eqb-false k 1 s)) i

tables-known : (tables_known nine_tables ≡ true) × (length nine_tables ≡ 9)
unfolding is_known nine_tables reports add_line column
tables-known = (refl, refl)

pub nine-unknown : (k p : ℕ) → 1 ≤ k → k ≤ 9 → is_known (nine_row k p) ≡ false → UnknownPosition ≡ nine_row k p
unfolding nine_row
nine-unknown k p l h e = table-unknown nine_tables k p tables-known.0 l (omega (arith, tables-known.1)) e

-- the field that a row names, and no other; a row that names none is not known
pub names-field : (r : Row) (f : Field) → Some f ≡ field_of r → Names r f
unfolding field_of
names-field (Required g) f e = let i : g ≡ f = cc in subst (Names (Required g)) i names-required
names-field (Optional g) f e = let i : g ≡ f = cc in subst (Names (Optional g)) i names-optional
names-field UnknownPosition f e = absurd cc
names-field UnknownType f e = absurd cc

pub known-field : (r : Row) → None ≡ field_of r → is_known r ≡ false
unfolding field_of is_known
known-field (Required g) e = absurd cc
known-field (Optional g) e = absurd cc
known-field UnknownPosition e = refl
known-field UnknownType e = refl

-- there is no table 0, and none after the last
no_table : (ts : List (List Line)) (p : ℕ) → UnknownType ≡ row_in_table ts 0 p
unfolding row_in_table
no_table [] p = refl
no_table (t ∷ ts) p = no_table ts p

past-table : (ts : List (List Line)) (k p : ℕ) → length ts < k → UnknownType ≡ row_in_table ts k p
unfolding row_in_table
past-table [] k p h = refl
past-table (t ∷ ts) k p h =
    let e : eqb k 1 ≡ false = ne_eqb k 1 (λ i. omega arith) in
    rw e (past-table ts (k - 1) p (omega arith))

pub nine-none : (k p : ℕ) → k < 1 → UnknownType ≡ nine_row k p
unfolding nine_row
nine-none k p h =
    let e : 0 ≡ k = omega arith in
    no_table nine_tables p ∙ ap (λ (j : ℕ). row_in_table nine_tables j p) e

pub nine-past : (k p : ℕ) → 9 < k → UnknownType ≡ nine_row k p
unfolding nine_row
nine-past k p h = past-table nine_tables k p (omega (arith, tables-known.1))
