-- The last step of the ladder, source after source.
use Rattle.std.specs.Prelude.{Bool, ◌&&◌, List, ◌⊎◌, ◌≢◌, ◌≡◌, refl, ℕ, ◌+◌, ◌-◌, ◌≤◌, ◌<◌, min, ltb, length, set}
use Rattle.std.proofs.Math.Bool.{true, false}
use Rattle.std.proofs.Math.Logic.{inl}
use Rattle.std.proofs.Common.{inr, ◌∙◌, le_trans, add-one, lt-ltb, le-ltb, length-set, get_or-set_same, get_or-set_other, ext_get_or}
use Rattle.std.proofs.Math.Option.{Option, none, some}
use Rattle.std.proofs.Math.Path.{sym, ap}
use Rattle.std.proofs.Math.Decide.{dec_lt, ℕ_discrete}
use native.Mathlib.Omega.{arith}
use Rattle.std.proofs.lemmas.List.{length-map}
use Rattle.std.proofs.Math.ListN.{get_or-map}
use Rattle.laws.specs.Sums.{sum_to_zero, sum_to_but, sum_to_same, sum_to_add}
use Rattle.merit.specs.LevelNeverBelowB.{state_at}
use Rattle.merit.specs.OneAfterAnother.{block_then, last_steady}
use Rattle.merit.specs.PlainMoves.{Found, next_roomy, lowered_room, unit_room_most, lowered_unit_room}
use Rattle.merit.specs.RemainderMoves.{down, room_last, emergency_leaves}
use Rattle.rules.specs.Group.{no_running, room, emergency, last, lowered, unit_room, dearer_average, better, next, plain, last_step, all, to_emergency}
use Rattle.rules.specs.Group as group
use Rattle.rules.specs.Units.{is_unit}
use Rattle.rules.specs.Words.{when◌then◌else◌}
use Rattle.rules.specs.declared.Plant.{Plant}
use Rattle.rules.specs.declared.Plant.TheVariants.{Unit as U, Purchase as P, Fixed as F}
use Rattle.rules.specs.declared.Running.{Running}
use Rattle.rules.specs.declared.Unit as unit
use Rattle.ladder.specs.Ready.{Ready, AllReady, Shifted, shift_ready}

-- The room of units alone.

module _ (s : Running) where
  pub unit_room_lem : (u : unit.Unit) (r : ℕ) → s.plant ≡ U u → r ≡ room last s → r ≡ unit_room s
  unfolding group.unit_room
  unit_room_lem u r e f = f ∙ sym (ap (λ (p : Plant). when is_unit p then room last s else 0) e)

  pub purchase_room : (g rate : ℕ) → s.plant ≡ P g rate → 0 ≡ unit_room s
  unfolding group.unit_room
  purchase_room g rate e = rw e

  pub fixed_room : (g : ℕ) → s.plant ≡ F g → 0 ≡ unit_room s
  unfolding group.unit_room
  fixed_room g e = rw e

-- The search: whether a source goes before the one found, if one was.
abbrev pub before : Bool → Running → Running → Bool
before found s t = ltb 0 (unit_room s) && (when found then dearer_average s t else true)

pub before_none : (r : ℕ) (found : Bool) (s t : Running) → r ≡ unit_room s → r ≡ 0 → false ≡ before found s t
before_none r found s t e h = rw (le-ltb 0 (unit_room s) (omega arith))

pub before_first : (r : ℕ) (found : Bool) (s t : Running) → r ≡ unit_room s → r ≢ 0 → found ≡ false → true ≡ before found s t
before_first r found s t e h f = rw (lt-ltb 0 (unit_room s) (omega arith), f)

pub before_other : (r : ℕ) (found : Bool) (s t : Running) → r ≡ unit_room s → r ≢ 0 → found ≡ true → dearer_average s t ≡ before found s t
before_other r found s t e h f = rw (lt-ltb 0 (unit_room s) (omega arith), f)

-- the source found, n where none has room
pub record Chosen (ss : List Running) (n i : ℕ) : Type 0 where
  pub none_left : i ≡ n → next last_step ss n ≡ none
  pub one_left : i < n → next last_step ss n ≡ some i
  pub within : i ≤ n

-- among the first i: none, or `best`, whose state is t
abbrev pub Lead : (ss : List Running) (n i best : ℕ) (t : Running) → Type 0
Lead ss n i best t = ((next last_step ss i ≡ none) × (best ≡ n)) ⊎ ((next last_step ss i ≡ some best) × (best < i) × (t ≡ state_at ss best))

module _ (ss : List Running) (i : ℕ) where
  next_more : (o : Option ℕ) → next last_step ss i ≡ o → next last_step ss (i + 1) ≡ better last_step ss i o
  unfolding next
  next_more o e = rw (add-one i) (ap (better last_step ss i) e)

  -- after none
  first_found : (t : Running) (b : Bool) → before false (state_at ss i) t ≡ b → better last_step ss i none ≡ (when b then some i else none)
  unfolding better
  first_found t b e = go (ltb 0 (unit_room (state_at ss i))) e
    where
      go : (x : Bool) → (x && true) ≡ b → (when x then some i else none) ≡ (when b then some i else none)
      go true e = ap (λ (y : Bool). when y then some i else none) e
      go false e = ap (λ (y : Bool). when y then some i else none) e

  -- after j
  better_found : (j : ℕ) (t : Running) (b : Bool) → t ≡ state_at ss j → before true (state_at ss i) t ≡ b → better last_step ss i (some j) ≡ (when b then some i else some j)
  unfolding better
  better_found j t b q e = ap (λ (y : Bool). when y then some i else some j) (ap (before true (state_at ss i)) (sym q) ∙ e)

module _ (ss : List Running) (n : ℕ) where
  pub lead_start : (t : Running) → Lead ss n 0 n t
  unfolding next
  lead_start t = inl (refl, refl)

  none_before : (i best : ℕ) (t : Running) (b : Bool) → best ≡ n → before (ltb best n) (state_at ss i) t ≡ b → before false (state_at ss i) t ≡ b
  none_before i best t b q e = ap (λ (f : Bool). before f (state_at ss i) t) (sym (le-ltb best n (omega arith))) ∙ e

  some_before : (i best : ℕ) (t : Running) (b : Bool) → best < n → before (ltb best n) (state_at ss i) t ≡ b → before true (state_at ss i) t ≡ b
  some_before i best t b q e = ap (λ (f : Bool). before f (state_at ss i) t) (sym (lt-ltb best n q)) ∙ e

  pub lead_take : (i best : ℕ) (t : Running) → i < n → Lead ss n i best t → before (ltb best n) (state_at ss i) t ≡ true → Lead ss n (i + 1) i (state_at ss i)
  lead_take i best t l (inl p) h = inr (next_more ss i none p.0 ∙ first_found ss i t true (none_before i best t true p.1 h), omega arith, refl)
  lead_take i best t l (inr p) h =
      inr (next_more ss i (some best) p.0 ∙ better_found ss i best t true p.2 (some_before i best t true (omega (arith, p.1)) h), omega arith, refl)

  pub lead_keep : (i best : ℕ) (t : Running) → i < n → Lead ss n i best t → before (ltb best n) (state_at ss i) t ≡ false → Lead ss n (i + 1) best t
  lead_keep i best t l (inl p) h = inl (next_more ss i none p.0 ∙ first_found ss i t false (none_before i best t false p.1 h), p.1)
  lead_keep i best t l (inr p) h =
      inr (next_more ss i (some best) p.0 ∙ better_found ss i best t false p.2 (some_before i best t false (omega (arith, p.1)) h), omega (arith, p.1), p.2)

  pub lead_end : (i best : ℕ) (t : Running) → i ≤ n → n ≤ i → Lead ss n i best t → Chosen ss n best
  lead_end i best t a b s = let e : i ≡ n = omega arith in go (rw e at s)
    where
      go : Lead ss n n best t → Chosen ss n best
      go (inl p) = record { none_left = λ q. p.0; one_left = λ q. absurd (omega (arith, p.1)); within = omega (arith, p.1) }
      go (inr p) = record { none_left = λ q. absurd (omega (arith, p.1)); one_left = λ q. p.0; within = omega (arith, p.1) }

-- The steps: what is left of the total is to be moved from the states so far, with room for it.
pub record Stepping (ss₀ : List Running) (n total : ℕ) (ss : List Running) (rest : ℕ) : Type 0 where
  pub long : length ss ≡ 32
  pub ready : (i : ℕ) → Ready (state_at ss i)
  pub enough : rest ≤ all unit_room ss n
  pub same : plain last_step n ss₀ total ≡ plain last_step n ss rest

-- a source of which k MWh are lowered
abbrev pub lower_at : List Running → ℕ → ℕ → List Running
lower_at ss i k = set ss i (lowered (state_at ss i) k)

-- what the source found gives at once
pub record Given (ss : List Running) (rest i k : ℕ) : Type 0 where
  pub some : 0 < k
  pub within : k ≤ rest
  pub room : k ≤ unit_room (state_at ss i)

pub stepping_start : (ss : List Running) (n total : ℕ) → length ss ≡ 32 → AllReady ss n → total ≤ all unit_room ss n → Stepping ss n total ss total
stepping_start ss n total long r h = record { long = long; ready = r.ready; enough = h; same = refl }

module _ {ss₀ ss : List Running} {n total rest : ℕ} (s : Stepping ss₀ n total ss rest) where
  roomy : (i : ℕ) → next last_step ss n ≡ some i → 0 < unit_room (state_at ss i)
  roomy i e = let f : Found last_step ss (λ i j. Unit) n (some i) = rw e at (next_roomy last_step ss n) in f.room

  -- while a rest is left, one is found
  pub chosen_there : (i : ℕ) → 0 < rest → Chosen ss n i → i < n
  chosen_there i z c = elim (dec_lt i n) [
    | yes l ↦ l
    | no l ↦ (
        let e : next last_step ss n ≡ none = c.none_left (omega (arith, c.within)) in
        let f : Found last_step ss (λ i j. Unit) n none = rw e at (next_roomy last_step ss n) in
        let none_left : all unit_room ss n ≡ 0 = sum_to_zero n (λ j. unit_room (state_at ss j)) (λ j m. elim (dec_lt 0 (unit_room (state_at ss j))) [ yes y ↦ absurd (f j m y) | no y ↦ omega arith ]) in
        absurd (omega (arith, s.enough)))
  ]

  pub chosen_given : (i k : ℕ) → 0 < rest → Chosen ss n i → k ≡ min (unit_room (state_at ss i)) rest → Given ss rest i k
  chosen_given i k z c e =
      let r = roomy i (c.one_left (chosen_there i z c)) in
      record { some = omega arith; within = omega arith; room = omega arith }

  pub stepping_more : (i k : ℕ) → n ≤ 32 → 0 < rest → Chosen ss n i → Given ss rest i k → Stepping ss₀ n total (lower_at ss i k) (rest - k)
  stepping_more i k small z c g = record {
    long = length-set ss i (lowered (state_at ss i) k) ∙ s.long;
    ready = λ j. elim (ℕ_discrete j i) [
      | yes e ↦ rw (e, put) (shift_ready (s.ready i) (down k (le_trans g.room (unit_room_most (state_at ss i)))))
      | no e ↦ rw (kept j e) (s.ready j)
    ];
    enough =
        omega (
          arith,
          g.within,
          g.room,
          s.enough,
          ap unit_room put ∙ lowered_unit_room (state_at ss i) k,
          sum_to_but n (λ j. unit_room (state_at ss j)) (λ j. unit_room (state_at (lower_at ss i k) j)) i l (λ j m ne. ap unit_room (kept j ne)),
        );
    same =
        let q : k + (rest - k) ≡ rest = omega (arith, g.within) in
        s.same ∙ ap (plain last_step n ss) (sym q) ∙ block_then last_step last_steady n ss i (c.one_left l) k (rest - k) g.room;
  }
    where
      l : i < n
      l = chosen_there i z c

      put : state_at (lower_at ss i k) i ≡ lowered (state_at ss i) k
      put = get_or-set_same ss i (lowered (state_at ss i) k) no_running (omega (arith, s.long, chosen_there i z c))

      kept : (j : ℕ) → j ≢ i → state_at (lower_at ss i k) j ≡ state_at ss j
      kept j ne = get_or-set_other ss i j (lowered (state_at ss i) k) no_running ne

  -- nothing is left
  pub stepping_end : rest ≤ 0 → ss ≡ plain last_step n ss₀ total
  unfolding plain
  stepping_end h = let e : rest ≡ 0 = omega arith in sym (s.same ∙ ap (plain last_step n ss) e)

-- The emergency floors.

abbrev pub emergency_room : List Running → ℕ → ℕ
emergency_room ss i = room emergency (state_at ss i)

emergency_at : (ss : List Running) (i : ℕ) → state_at (to_emergency ss) i ≡ lowered (state_at ss i) (emergency_room ss i)
unfolding to_emergency room
emergency_at ss i = get_or-map (λ (s : Running). lowered s (room emergency s)) ss i no_running

pub emergency_is : (ss us : List Running) → length ss ≡ 32 → Shifted false ss 32 (emergency_room ss) us → us ≡ to_emergency ss
unfolding to_emergency
emergency_is ss us long m =
    ext_get_or no_running us (to_emergency ss) (m.long ∙ sym (length-map ss (λ (s : Running). lowered s (room emergency s)))) (λ i l. m.inside i (omega (arith, m.long)) ∙ sym (emergency_at ss i))

-- from them the last step goes on
module _ (ss : List Running) (n : ℕ) (r : AllReady ss n) where
  pub emergency_ready : AllReady (to_emergency ss) n
  emergency_ready = record {
    n_small = r.n_small;
    ready = λ i. rw (emergency_at ss i) (shift_ready (r.ready i) (down (emergency_room ss i) (room_last emergency (state_at ss i))));
  }

  pub emergency_enough : (total : ℕ) → total + all (room emergency) ss n ≤ all (room last) ss n → total ≤ all unit_room (to_emergency ss) n
  emergency_enough total h = omega (
    arith,
    sum_to_same n (λ i. unit_room (state_at (to_emergency ss) i)) (λ i. room last (state_at (to_emergency ss) i)) (λ i l. emergency_leaves ss i),
    sum_to_add n (λ i. room last (state_at (to_emergency ss) i)) (emergency_room ss) (λ i. room last (state_at ss i))
        (λ i l. omega (arith, ap (room last) (emergency_at ss i) ∙ lowered_room last (state_at ss i) (emergency_room ss i), room_last emergency (state_at ss i))),
  )
