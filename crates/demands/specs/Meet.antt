-- Document 02, item 14: both ends meet. The gateway's list, the bench's plan of it, and the plan's parts sent.
use Rattle.std.specs.Prelude.{ℕ, ◌+◌, ◌-◌, ◌<◌, ◌≡◌, true, cond, List, [], ◌∷◌, map, eqb, leb, length, get_or, take, drop, Result, Ok, Err}
use Rattle.wire.specs.Map.{map_bytes}
use Rattle.message.specs.declared.refusal.Refusal.{Refusal}
use Rattle.message.specs.declared.frame.Header.{Header}
use Rattle.message.specs.Read.{Good, read_of}
use Rattle.message.specs.Vet.{vet}
use Rattle.writer.specs.Send.{Outgoing, send_of, sent, gap_fill as fill_of}
use Rattle.plan.specs.Plan.{Part, business, gap_fill, parts_of}
use Rattle.session.specs.declared.state.Session.{Session}
use Rattle.session.specs.declared.state.State.TheVariants.{Live}
use Rattle.session.specs.Arrival.{is_ours}
use Rattle.demands.specs.Content.{Content, saying, said, is_business}
use Rattle.demands.specs.Gateway.{Published, business_of, after_all, handed_all}
use Rattle.demands.specs.Run.{lend_all, Quiet}
use Rattle.demands.specs.Fill.{Fill}

-- the list as the bench has it (document 01, "The bench's resend plan"): for the numbers 1, 2, .. whether each is business (1) or session (0)
unfoldable pub marks_of : List Content → List ℕ
marks_of = map (λ (m : Content). cond (is_business m) 1 0)

-- the bench's plan of it from e to the end
unfoldable pub resend : List Content → ℕ → List Part
resend L e = parts_of (marks_of L) e 0

-- the parts of a plan sent one by one, each as bytes of a true message with our Comp ID and PossDup 1, nothing lost and nothing between: for (n, 0) a true
-- copy of the listed business message n, for (first, New), New not being 0, a gap fill with number first and that New
pub data Sent (ours : List ℕ) (L : List Content) : List Part → List (List ℕ) → Type 0 where
  none : Sent ours L [] []
  copy : {n k : ℕ} {h : Header} {m : Content} {b : List ℕ} {ps : List Part} {bs : List (List ℕ)} → read_of b ≡ Good h k → is_ours ours b ≡ true
      → h.possdup ≡ 1 → said b ≡ m ∷ [] → Published L n m → is_business m ≡ true → Sent ours L ps bs → Sent ours L (business n ∷ ps) (b ∷ bs)
  fill : {first new : ℕ} {b : List ℕ} {ps : List Part} {bs : List (List ℕ)} → 0 < new → (f : Fill ours first new b) → f.header.possdup ≡ 1
      → Sent ours L ps bs → Sent ours L (gap_fill first new ∷ ps) (b ∷ bs)

-- what is shown of them: E is one past the list; M is 0 if it stood within the list, and as it was otherwise; O and our Comp ID are as before, the session
-- is Live, and no repeat is counted. The list's business messages from E on were handed up, in order; each answer has code 0, and nothing was sent
pub record Met (L : List Content) (s : Session) (bs : List (List ℕ)) : Type 0 where
  pub session : after_all s (lend_all bs) ≡ record {
    state = Live;
    ours = s.ours;
    expected = length L + 1;
    own = s.own;
    ahead = cond (leb s.ahead (length L)) 0 s.ahead;
    repeats = 0;
  }
  pub handed : handed_all s (lend_all bs) ≡ business_of (drop (s.expected - 1) L)
  pub quiet : Quiet s bs

-- ---- a gateway whose messages the writer takes

-- x has number n, and passes the writer's checks with this Comp ID
pub record Writable (comp_id : List ℕ) (n : ℕ) (x : Outgoing) : Type 0 where
  pub numbered : x.head.number ≡ n
  pub map-size : length x.map ≡ map_bytes
  pub plain : ℕ
  pub good : vet x.head comp_id x.map x.body ≡ Ok plain

-- a list of such messages, with the numbers from n on
pub data AllWritable (comp_id : List ℕ) : ℕ → List Outgoing → Type 0 where
  done : {n : ℕ} → AllWritable comp_id n []
  more : {n : ℕ} {x : Outgoing} {xs : List Outgoing} → Writable comp_id n x → AllWritable comp_id (n + 1) xs → AllWritable comp_id n (x ∷ xs)

-- what such a message says
unfoldable pub says_of : List ℕ → Outgoing → Content
says_of comp_id x = saying x.head.messagetype x.head.number comp_id x.map x.body

-- the bytes that `write` reports and leaves at the front of a buffer; none where it refuses
unfoldable pub reported : Result ℕ Refusal → List ℕ → List ℕ
reported (Ok n) d = take n d
reported (Err r) d = []

-- those of such a message, written into the buffer d
unfoldable pub bytes_of : List ℕ → List ℕ → Outgoing → List ℕ
bytes_of comp_id d x = reported (send_of x comp_id d) (sent x comp_id d)

-- the same message with PossDup 1 (004 section 5.1)
unfoldable pub again : Outgoing → Outgoing
again x = record {
  head = record { messagetype = x.head.messagetype; number = x.head.number; possdup = 1; possresend = x.head.possresend };
  map = x.map;
  body = x.body;
}

-- a part of the plan, as a message: the listed one again, or a gap fill (which also stands for a number that is not listed, and a plan has none)
unfoldable pub part_of : List Outgoing → Part → Outgoing
part_of xs p = cond (eqb p.new 0) (again (get_or xs (p.first - 1) (fill_of p.first p.new))) (fill_of p.first p.new)

-- the plan's parts from e to the end, each written into the buffer d
unfoldable pub resent : List ℕ → List ℕ → List Outgoing → ℕ → List (List ℕ)
resent comp_id d xs e = map (λ (p : Part). bytes_of comp_id d (part_of xs p)) (resend (map (says_of comp_id) xs) e)
