-- The row of the group in turn: it has the moves of each source since the group began, and no other row of the table is touched.
use Rattle.std.specs.Prelude.{List, ◌≡◌, refl, ℕ, ◌+◌, ◌*◌, ◌≤◌, ◌<◌, length, get_or, set}
use Rattle.std.proofs.Common.{sym, ◌∙◌, add-one, arith, length-set, get_or-set_same, get_or-set_other}
use Rattle.laws.specs.Sums.{below_suc}
use Rattle.ladder.specs.Ready.{Ready}
use Rattle.merit.specs.LevelNeverBelowB.{state_at}
use Rattle.moves.specs.MovesKept.{Stands, stands, AllLow, Entries, kept_at, Elsewhere, low_kept, elsewhere_none, elsewhere_set, entries_none, entries_kept}
use Rattle.rules.specs.Group.{no_running}
use Rattle.rules.specs.declared.Running.{Running}

-- a state that an engine may move fits an entry
pub ready_stands : (s : Running) → Ready s → Stands s
ready_stands s r = stands s r.sound r.small

-- the group began at ss, when the table was xs; its sources stand at ws now
pub record RowKept (lead n : ℕ) (ss : List Running) (xs : List ℕ) (ws : List Running) (kept : List ℕ) : Type 0 where
  pub long : length kept ≡ 1024
  pub low : AllLow kept
  pub entries : Entries ss ws n (lead * 32) kept
  pub apart : Elsewhere lead xs kept

pub row_none : (lead n : ℕ) (ss : List Running) (xs : List ℕ) → length xs ≡ 1024 → AllLow xs → ((i : ℕ) → Stands (state_at ss i)) → ((i : ℕ) → i < n → get_or xs (lead * 32 + i) 0 ≡ 0) → RowKept lead n ss xs ss xs
row_none lead n ss xs e l g z = record { long = e; low = l; entries = entries_none ss n (lead * 32) xs g z; apart = elsewhere_none lead xs }

-- a source went from w to y
pub row_more : (lead n : ℕ) (ss : List Running) (xs : List ℕ) (ws : List Running) (kept : List ℕ) (i : ℕ) (w y : Running) (kept' : List ℕ) → lead < 32 → i < n → n ≤ 32 → i < length ws → Stands w → Stands y → w ≡ state_at ws i
    → kept' ≡ kept_at kept (lead * 32 + i) w y → RowKept lead n ss xs ws kept → RowKept lead n ss xs (set ws i y) kept'
row_more lead n ss xs ws kept i w y kept' a b c d f g was e r = rw e (record {
  long = length-set kept (lead * 32 + i) _ ∙ r.long;
  low = low_kept kept (lead * 32 + i) w y r.low f g;
  entries = rw was (entries_kept ss ws n i (lead * 32) kept y g b d (omega (arith, r.long)) r.entries);
  apart = elsewhere_set lead i xs kept _ (omega arith) r.apart;
})

-- where the row was kept up to ts, it is kept up to us, whenever the group began
abbrev pub Carried : ℕ → ℕ → List Running → List ℕ → List Running → List ℕ → Type 0
Carried lead n ts kept us kept' = (ss : List Running) (xs : List ℕ) → RowKept lead n ss xs ts kept → RowKept lead n ss xs us kept'

-- Source by source, from ts to us.

pub record Carrying (lead n : ℕ) (ts us : List Running) (kept : List ℕ) (i : ℕ) (kept' : List ℕ) : Type 0 where
  pub mixed : List Running
  pub long : length mixed ≡ length ts
  pub passed : (k : ℕ) → k < i → state_at mixed k ≡ state_at us k
  pub rest : (k : ℕ) → i ≤ k → state_at mixed k ≡ state_at ts k
  pub carried : Carried lead n ts kept mixed kept'

module _ (lead n : ℕ) (ts us : List Running) (kept : List ℕ) where
  pub carrying_none : Carrying lead n ts us kept 0 kept
  carrying_none = record { mixed = ts; long = refl; passed = λ k l. absurd (omega arith); rest = λ k l. refl; carried = λ ss xs r. r }

  pub carrying_more : (i : ℕ) (y z : List ℕ) → lead < 32 → i < n → n ≤ 32 → length ts ≡ 32 → Ready (state_at ts i) → Ready (state_at us i) → z ≡ kept_at y (lead * 32 + i) (state_at ts i) (state_at us i)
      → Carrying lead n ts us kept i y → Carrying lead n ts us kept (i + 1) z
  carrying_more i y z a b c d f g e s = record {
    mixed = set s.mixed i (state_at us i);
    long = length-set s.mixed i (state_at us i) ∙ s.long;
    passed = rw (add-one i) (below_suc (λ k. state_at (set s.mixed i (state_at us i)) k ≡ state_at us k) i
        (λ k l. get_or-set_other s.mixed i k (state_at us i) no_running (λ q. omega arith) ∙ s.passed k l)
        (get_or-set_same s.mixed i (state_at us i) no_running (omega (arith, s.long))));
    rest = λ k l. get_or-set_other s.mixed i k (state_at us i) no_running (λ q. omega arith) ∙ s.rest k (omega arith);
    carried = λ ss xs r. row_more lead n ss xs s.mixed y i (state_at ts i) (state_at us i) z a b c (omega (arith, s.long)) (ready_stands (state_at ts i) f) (ready_stands (state_at us i) g) (sym (s.rest i (omega arith))) e (s.carried ss xs r);
  }

  pub carried_all : (i : ℕ) (y : List ℕ) → i ≤ n → n ≤ i → Carrying lead n ts us kept i y → Carried lead n ts kept us y
  carried_all i y a b s ss xs r =
      let c = s.carried ss xs r in
      record { long = c.long; low = c.low; entries = λ k l. rw (← s.passed k (omega arith)) (c.entries k l); apart = c.apart }
