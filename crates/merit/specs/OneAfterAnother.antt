-- In the last step of the ladder one MWh at a time IS one source after another: the order does not change as sources are lowered, so the plain rule stays
-- with the source it has found until its room is used up, and whole blocks may be moved.
use Rattle.std.specs.Prelude.{Bool, List, ◌≡◌, ltb, length}
use Rattle.std.proofs.Math.Option.{Option, none, some}
use Rattle.std.proofs.Math.Path.{refl, sym, ap}
use Rattle.std.proofs.Common.{◌∙◌, add-zero, add-suc, arith, lt-ltb, get_or-set_same, get_or-set_other}
use Prim.Native.Nat.{ℕ, zero, suc, ◌+◌, ◌-◌, ◌≤◌, ◌<◌}
use Rattle.std.proofs.Math.Decide.{ℕ_discrete}
use Rattle.std.proofs.Math.ListN.{set}
use Rattle.std.proofs.Math.Seq.{set-set, set-get_or}
use Rattle.merit.specs.LevelNeverBelowB.{state_at}
use Rattle.merit.specs.PlainMoves.{next_roomy, Found, Roomy, Stepwise, roomy_there, last_stepwise}
use Rattle.rules.specs.Group.{no_running, changed, Way, better, next, move, plain, last_step}
use Rattle.rules.specs.declared.Running.{Running}

-- r steps and then q more
pub plain_add : (w : Way) (n : ℕ) (ss : List Running) (r q : ℕ) → plain w n ss (r + q) ≡ plain w n (plain w n ss r) q
unfolding plain
plain_add w n ss r zero = ap (plain w n ss) (add-zero r)
plain_add w n ss r (suc q) = ap (plain w n ss) (add-suc r q) ∙ ap (λ (us : List Running). move w us (next w us n)) (plain_add w n ss r q)

-- a search that the change from ss to us cannot tell
module _ (w : Way) (ss us : List Running) (r : (j : ℕ) → ltb 0 (w.room (state_at us j)) ≡ ltb 0 (w.room (state_at ss j)))
    (f : (a b : ℕ) → w.first (state_at us a) (state_at us b) ≡ w.first (state_at ss a) (state_at ss b)) where
  better_same : (n : ℕ) (o : Option ℕ) → better w us n o ≡ better w ss n o
  unfolding better
  better_same n none = rw (r n)
  better_same n (some j) = rw (r n, f n j)

  next_same : (n : ℕ) → next w us n ≡ next w ss n
  unfolding next
  next_same zero = refl
  next_same (suc n) = ap (better w us n) (next_same n) ∙ better_same n (next w ss n)

-- a way whose order the moves do not change
pub record Steady (w : Way) : Type 0 where
  pub stepwise : Stepwise w
  pub left : (s t : Running) (k : ℕ) → w.first (w.moved s k) t ≡ w.first s t
  pub right : (s t : Running) (k : ℕ) → w.first s (w.moved t k) ≡ w.first s t

module _ (w : Way) (S : Steady w) (n : ℕ) (ss : List Running) (i : ℕ) (found : next w ss n ≡ some i) where
  -- source i moved by k
  abbrev after : ℕ → List Running
  after k = set ss i (w.moved (state_at ss i) k)

  roomy : Roomy w ss i
  roomy = let f : Found w ss (λ i j. Unit) n (some i) = rw found at (next_roomy w ss n) in f.room

  there : i < length ss
  there = roomy_there w S.stepwise n ss ss i roomy

  after_first : (k a b : ℕ) → w.first (state_at (after k) a) (state_at (after k) b) ≡ w.first (state_at ss a) (state_at ss b)
  after_first k a b = one a (λ (x : Running). w.first x (state_at (after k) b)) (S.left (state_at ss i) (state_at (after k) b) k) ∙ one b (w.first (state_at ss a)) (S.right (state_at ss a) (state_at ss i) k)
    where
      one : (a : ℕ) (f : Running → Bool) → f (w.moved (state_at ss i) k) ≡ f (state_at ss i) → f (state_at (after k) a) ≡ f (state_at ss a)
      one a f h = elim (ℕ_discrete a i) [
        | yes e ↦ rw e (ap f (get_or-set_same ss i (w.moved (state_at ss i) k) no_running there) ∙ h)
        | no e ↦ ap f (get_or-set_other ss i a (w.moved (state_at ss i) k) no_running e)
      ]

  after_room : (k : ℕ) → k < w.room (state_at ss i) → (j : ℕ) → ltb 0 (w.room (state_at (after k) j)) ≡ ltb 0 (w.room (state_at ss j))
  after_room k h j = elim (ℕ_discrete j i) [
    | yes e ↦ (
        let q : w.room (state_at (after k) i) ≡ w.room (state_at ss i) - k = ap w.room (get_or-set_same ss i (w.moved (state_at ss i) k) no_running there) ∙ S.stepwise.room (state_at ss i) k (omega arith) in
        rw e (lt-ltb 0 (w.room (state_at (after k) i)) (omega arith) ∙ sym (lt-ltb 0 (w.room (state_at ss i)) (omega arith))))
    | no e ↦ ap (λ (s : Running). ltb 0 (w.room s)) (get_or-set_other ss i j (w.moved (state_at ss i) k) no_running e)
  ]

  -- k steps are one block
  pub block_is : (k : ℕ) → k ≤ w.room (state_at ss i) → plain w n ss k ≡ set ss i (w.moved (state_at ss i) k)
  unfolding plain move
  block_is zero h = sym (ap (set ss i) (S.stepwise.none (state_at ss i)) ∙ set-get_or ss i no_running)
  block_is (suc k) h =
      let a : plain w n ss k ≡ after k = block_is k (omega arith) in
      let b : next w (after k) n ≡ some i = next_same w ss (after k) (after_room k (omega arith)) (after_first k) n ∙ found in
      rw (a, b)
      (ap (λ (s : Running). set (after k) i (w.moved s 1)) (get_or-set_same ss i (w.moved (state_at ss i) k) no_running there) ∙
      set-set ss i (w.moved (state_at ss i) k) (w.moved (w.moved (state_at ss i) k) 1) ∙ ap (set ss i) (S.stepwise.more (state_at ss i) k))

  -- and the rule goes on from there
  pub block_then : (k r : ℕ) → k ≤ w.room (state_at ss i) → plain w n ss (k + r) ≡ plain w n (set ss i (w.moved (state_at ss i) k)) r
  block_then k r h = plain_add w n ss k r ∙ ap (λ (us : List Running). plain w n us r) (block_is k h)

pub last_steady : Steady last_step
unfolding changed
last_steady = record { stepwise = last_stepwise; left = λ s t k. refl; right = λ s t k. refl }
