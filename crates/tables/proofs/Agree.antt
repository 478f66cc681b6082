-- The nine tables of the Execution Report name one field at each position. Assumes nothing.
use mathlib.Core.Path.{◌≡◌, refl, sym, ap, ◌∙◌}
use mathlib.Core.Bool.{Bool, true, false, cond}
use mathlib.Core.List.{List, [], ◌∷◌}
use Prim.Native.Nat.{ℕ, ◌-◌, ◌≤◌}
use native.Mathlib.Omega.{arith}
use lib.Dec.{eqb}
use lib.ListN.{get_or}
use borrow.Author.Tests.{eqb-true}
use Rattle.wire.proofs.TestLaws.{both}
use Rattle.tables.specs.declared.dictionary.Field.{Field}
use Rattle.tables.specs.declared.dictionary.Field.TheVariants as field
use Rattle.tables.specs.declared.table.Row.{Row}
use Rattle.tables.specs.declared.table.Row.TheVariants.{Required, Optional, UnknownPosition, UnknownType}
use Rattle.tables.specs.Agree.{
  row_in_table,
  nine_row,
  Names,
  names-required,
  names-optional,
}
use Rattle.tables.specs.Dictionary.{entry, row_number}
use Rattle.tables.specs.Line.{Line, by_field, is_required, row_at}
use Rattle.tables.specs.Reports.{
  reports,
  add_line,
  column,
  nine_tables,
  not_required,
  joined,
  union_at,
}
use Rattle.tables.specs.Tables.{tables_of, row_of}

-- the dictionary's fields, in its order
abbrev fields : List Field
fields =
    field.AggressorIndicator ∷
    field.BrokerLocationId ∷
    field.BusinessRejectCode ∷
    field.BusinessRejectReferenceId ∷
    field.ClearingInstruction ∷
    field.ClientOrderId ∷
    field.CopyMessageIndicator ∷
    field.CounterpartyBrokerId ∷
    field.CumulativeQuantity ∷
    field.EndSequence ∷
    field.ExecType ∷
    field.ExecutionId ∷
    field.ExecutionPrice ∷
    field.ExecutionQuantity ∷
    field.ExecRestatementReason ∷
    field.ExchangeTradeType ∷
    field.GapFill ∷
    field.LeavesQuantity ∷
    field.LogoutText ∷
    field.LookupRejectCode ∷
    field.LotType ∷
    field.MatchType ∷
    field.MaxPriceLevels ∷
    field.MessageRejectCode ∷
    field.NewPassword ∷
    field.NewSequenceNumber ∷
    field.NextExpectedMessageSequence ∷
    field.OrderId ∷
    field.OwningBrokerId ∷
    field.OrderQuantity ∷
    field.OrderStatus ∷
    field.OrderType ∷
    field.OrderRestrictions ∷
    field.OrderCapacity ∷
    field.OrderCategory ∷
    field.OriginalClientOrderId ∷
    field.Password ∷
    field.PositionEffect ∷
    field.Price ∷
    field.ProtocolType ∷
    field.PrimaryIp ∷
    field.PrimaryPort ∷
    field.ReferenceExecutionId ∷
    field.ReferenceFieldName ∷
    field.ReferenceMessageType ∷
    field.ReferenceSequenceNumber ∷
    field.ReferenceTestRequestId ∷
    field.Reason ∷
    field.SecurityExchange ∷
    field.SecurityId ∷
    field.SecurityIdSource ∷
    field.SecondaryIp ∷
    field.SecondaryPort ∷
    field.SessionStatus ∷
    field.Side ∷
    field.SmpId ∷
    field.StartSequence ∷
    field.Status ∷
    field.SubmittingBrokerId ∷
    field.Text ∷
    field.TimeInForce ∷
    field.TestMessageIndicator ∷
    field.TestRequestId ∷
    field.TransactionTime ∷
    field.TradeType ∷
    field.TradeReportId ∷
    field.TradeReportTransType ∷
    field.TradeReportType ∷
    field.TradeReportStatus ∷
    field.TradeId ∷
    field.TradeMatchId ∷
    field.TradeHandlingInstructions ∷
    field.TypeOfService ∷
    []

-- a field's number is at least 1, and the field is found again by it
by_number : (f : Field) → (1 ≤ row_number f) × (get_or fields (row_number f - 1) field.AggressorIndicator ≡ f)
unfolding entry row_number
by_number field.AggressorIndicator = (omega arith, refl)
by_number field.BrokerLocationId = (omega arith, refl)
by_number field.BusinessRejectCode = (omega arith, refl)
by_number field.BusinessRejectReferenceId = (omega arith, refl)
by_number field.ClearingInstruction = (omega arith, refl)
by_number field.ClientOrderId = (omega arith, refl)
by_number field.CopyMessageIndicator = (omega arith, refl)
by_number field.CounterpartyBrokerId = (omega arith, refl)
by_number field.CumulativeQuantity = (omega arith, refl)
by_number field.EndSequence = (omega arith, refl)
by_number field.ExecType = (omega arith, refl)
by_number field.ExecutionId = (omega arith, refl)
by_number field.ExecutionPrice = (omega arith, refl)
by_number field.ExecutionQuantity = (omega arith, refl)
by_number field.ExecRestatementReason = (omega arith, refl)
by_number field.ExchangeTradeType = (omega arith, refl)
by_number field.GapFill = (omega arith, refl)
by_number field.LeavesQuantity = (omega arith, refl)
by_number field.LogoutText = (omega arith, refl)
by_number field.LookupRejectCode = (omega arith, refl)
by_number field.LotType = (omega arith, refl)
by_number field.MatchType = (omega arith, refl)
by_number field.MaxPriceLevels = (omega arith, refl)
by_number field.MessageRejectCode = (omega arith, refl)
by_number field.NewPassword = (omega arith, refl)
by_number field.NewSequenceNumber = (omega arith, refl)
by_number field.NextExpectedMessageSequence = (omega arith, refl)
by_number field.OrderId = (omega arith, refl)
by_number field.OwningBrokerId = (omega arith, refl)
by_number field.OrderQuantity = (omega arith, refl)
by_number field.OrderStatus = (omega arith, refl)
by_number field.OrderType = (omega arith, refl)
by_number field.OrderRestrictions = (omega arith, refl)
by_number field.OrderCapacity = (omega arith, refl)
by_number field.OrderCategory = (omega arith, refl)
by_number field.OriginalClientOrderId = (omega arith, refl)
by_number field.Password = (omega arith, refl)
by_number field.PositionEffect = (omega arith, refl)
by_number field.Price = (omega arith, refl)
by_number field.ProtocolType = (omega arith, refl)
by_number field.PrimaryIp = (omega arith, refl)
by_number field.PrimaryPort = (omega arith, refl)
by_number field.ReferenceExecutionId = (omega arith, refl)
by_number field.ReferenceFieldName = (omega arith, refl)
by_number field.ReferenceMessageType = (omega arith, refl)
by_number field.ReferenceSequenceNumber = (omega arith, refl)
by_number field.ReferenceTestRequestId = (omega arith, refl)
by_number field.Reason = (omega arith, refl)
by_number field.SecurityExchange = (omega arith, refl)
by_number field.SecurityId = (omega arith, refl)
by_number field.SecurityIdSource = (omega arith, refl)
by_number field.SecondaryIp = (omega arith, refl)
by_number field.SecondaryPort = (omega arith, refl)
by_number field.SessionStatus = (omega arith, refl)
by_number field.Side = (omega arith, refl)
by_number field.SmpId = (omega arith, refl)
by_number field.StartSequence = (omega arith, refl)
by_number field.Status = (omega arith, refl)
by_number field.SubmittingBrokerId = (omega arith, refl)
by_number field.Text = (omega arith, refl)
by_number field.TimeInForce = (omega arith, refl)
by_number field.TestMessageIndicator = (omega arith, refl)
by_number field.TestRequestId = (omega arith, refl)
by_number field.TransactionTime = (omega arith, refl)
by_number field.TradeType = (omega arith, refl)
by_number field.TradeReportId = (omega arith, refl)
by_number field.TradeReportTransType = (omega arith, refl)
by_number field.TradeReportType = (omega arith, refl)
by_number field.TradeReportStatus = (omega arith, refl)
by_number field.TradeId = (omega arith, refl)
by_number field.TradeMatchId = (omega arith, refl)
by_number field.TradeHandlingInstructions = (omega arith, refl)
by_number field.TypeOfService = (omega arith, refl)

-- so that no two fields have one number, and none has 0
pub one_number : (f g : Field) → row_number f ≡ row_number g → f ≡ g
one_number f g e = sym (by_number f).1 ∙ ap (λ (n : ℕ). get_or fields (n - 1) field.AggressorIndicator) e ∙ (by_number g).1

no_zero : (f : Field) → row_number f ≡ 0 → ⊥
no_zero f e = omega (arith, (by_number f).0)

-- the number of the field that a row names; 0 where it names none
unfoldable field_number : Row → ℕ
field_number r = by_field row_number 0 r

-- the test: each line of a table names what the tables together name at its position
unfoldable lines_agree : List (List Line) → List Line → Bool
lines_agree all [] = true
lines_agree all (l ∷ ls) = cond (eqb (field_number l.row) (field_number (union_at all l.position))) (lines_agree all ls) false

-- and so does each of the tables
unfoldable tables_agree : List (List Line) → List (List Line) → Bool
tables_agree all [] = true
tables_agree all (t ∷ ts) = cond (lines_agree all t) (tables_agree all ts) false

-- a row with the number of a field names that field
names-number : (r : Row) (f : Field) → row_number f ≡ field_number r → Names r f
unfolding field_number
names-number (Required g) f e = rw (one_number f g e) names-required
names-number (Optional g) f e = rw (one_number f g e) names-optional
names-number UnknownPosition f e = absurd (no_zero f e)
names-number UnknownType f e = absurd (no_zero f e)

named-number : {r : Row} {f : Field} → Names r f → field_number r ≡ row_number f
unfolding field_number
named-number names-required = refl
named-number names-optional = refl

nothing-named : {A : Type 0} {f : Field} → (r : Row) → field_number r ≡ 0 → Names r f → A
nothing-named {A} {f} r e n = absurd (no_zero f (sym (named-number n) ∙ e))

-- the test of a table's lines, at every position
lines-rule : (all : List (List Line)) (t : List Line) → lines_agree all t ≡ true → (p : ℕ) (f : Field) → Names (row_at t p) f → Names (union_at all p) f
unfolding lines_agree row_at field_number
lines-rule all [] e p f n = nothing-named UnknownPosition refl n
lines-rule all (l ∷ ls) e p f n =
    go (eqb p l.position) refl n (λ m. lines-rule all ls (both (eqb (field_number l.row) (field_number (union_at all l.position))) (lines_agree all ls) e).1 p f m)
  where
    v : eqb (field_number l.row) (field_number (union_at all l.position)) ≡ true
    v = (both (eqb (field_number l.row) (field_number (union_at all l.position))) (lines_agree all ls) e).0

    go : (b : Bool) → eqb p l.position ≡ b → Names (cond b l.row (row_at ls p)) f → (Names (row_at ls p) f → Names (union_at all p) f)
        → Names (union_at all p) f
    go true h m others =
        let q : p ≡ l.position = eqb-true p l.position h in
        let k : field_number l.row ≡ field_number (union_at all l.position) = eqb-true _ _ v in
        names-number (union_at all p) f (sym (named-number m) ∙ k ∙ ap (λ (x : ℕ). field_number (union_at all x)) (sym q))
    go false h m others = others m

-- and of all tables
tables-rule : (all ts : List (List Line)) → tables_agree all ts ≡ true → (k p : ℕ) (f : Field) → Names (row_in_table ts k p) f → Names (union_at all p) f
unfolding tables_agree row_in_table field_number
tables-rule all [] e k p f n = nothing-named UnknownType refl n
tables-rule all (t ∷ ts) e k p f n =
    let v = both (lines_agree all t) (tables_agree all ts) e in
    go (eqb k 1) n (lines-rule all t v.0 p f) (tables-rule all ts v.1 (k - 1) p f)
  where
    go : (b : Bool) → Names (cond b (row_at t p) (row_in_table ts (k - 1) p)) f → (Names (row_at t p) f → Names (union_at all p) f)
        → (Names (row_in_table ts (k - 1) p) f → Names (union_at all p) f) → Names (union_at all p) f
    go true m first others = first m
    go false m first others = others m

-- the nine tables pass the test
nine-pass : tables_agree nine_tables nine_tables ≡ true
unfolding tables_agree lines_agree field_number entry row_number union_at joined is_required not_required row_at nine_tables reports add_line column
nine-pass = refl

-- what one of the nine names at a position, the table of the report's type names there too
pub nine-in-report : (k p : ℕ) (f : Field) → Names (nine_row k p) f → Names (row_of 10 p) f
unfolding nine_row row_of tables_of
nine-in-report k p f n = tables-rule nine_tables nine_tables nine-pass k p f n

one_name : {r : Row} {f g : Field} → Names r f → Names r g → f ≡ g
one_name {r} {f} {g} m n = one_number f g (sym (named-number m) ∙ named-number n)

-- any two of the nine that name a position name the same field, and so the same sort and width
pub nine-agree : (j k p : ℕ) (f g : Field) → Names (nine_row j p) f → Names (nine_row k p) g → f ≡ g
nine-agree j k p f g m n = one_name (nine-in-report j p f m) (nine-in-report k p g n)
