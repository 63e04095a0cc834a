-- The invariant of both engines, `Taken` of the sum so far: nothing, or all above a mark, and a block more of the best source.
use mathlib.Core.Bool.{Bool}
use mathlib.Core.List.{List}
use mathlib.Core.Logic.{inl, inr, ◌≢◌}
use mathlib.Core.Path.{◌≡◌, refl, sym, ◌∙◌}
use Prim.Native.Nat.{ℕ, ◌+◌, ◌*◌, ◌≤◌, ◌<◌}
use native.Mathlib.Decide.{dec_lt}
use native.Mathlib.Nat.{zero-mul}
use native.Mathlib.Numerals.{add-one}
use native.Mathlib.Omega.{arith}
use lib.ListN.{length, set, replicate, length-set, get_or-replicate, get_or-eq_default}
use lib.Seq.{get_or-set_same, get_or-set_other}
use Rattle.dispatch.specs.Taken.{First, first_strict, merit, merits_fall, Taken, Choice, Block, Above}
use Rattle.laws.specs.Sums.{below_suc, sum_to_most, sum_to_same, sum_to_zero, sum_to_but}
use Rattle.cutoff.specs.Lines.{lanes, at, Table, Marked, stock_at}
use Rattle.cutoff.specs.Tally.{stock_counted}
use Rattle.merit.specs.Settled.{More, more_strict, settled_block}
use Rattle.rules.specs.Words.{sum_to}

-- zeros
pub zeros : (i : ℕ) → at (replicate lanes 0) i ≡ 0
zeros i = elim (dec_lt i lanes) [ yes l ↦ get_or-replicate lanes i 0 0 l | no l ↦ get_or-eq_default (replicate lanes 0) 0 {n = i} (omega arith) ]

module _ (up : Bool) (one step cap : List ℕ) (n : ℕ) where
  pub taken_none : Taken up one step cap n 0 (replicate lanes 0)
  taken_none = record {
    long = refl;
    beyond = λ i l. zeros i;
    adds = sum_to_zero n (at (replicate lanes 0)) (λ i l. zeros i);
    settled = record { fits = λ i l. omega (arith, zeros i); order = λ i j k l a b ne x y z. absurd (omega (arith, zeros i)) };
  }

  -- the whole of the total
  pub taken_all : (total x : ℕ) (t : List ℕ) → x ≤ total → total ≤ x → Taken up one step cap n x t → Taken up one step cap n total t
  taken_all total x t l m a = let e : x ≡ total = omega arith in rw e at a

  -- while less than the total is taken, a source has room
  pub choice_there : {b : Bool} (total x i : ℕ) (t : List ℕ) → Taken up one step cap n x t → x < total → total ≤ sum_to (at cap) n → Choice b one step cap t n i → i < n
  choice_there total x i t a l h d = elim (dec_lt i n) [
    | yes m ↦ m
    | no m ↦ absurd (omega (arith, sum_to_most n (at cap) (at t) (d.none (omega (arith, d.within))), a.adds))
  ]

  pub taken_more : (x rest i g : ℕ) (t : List ℕ) → n ≤ lanes → Taken up one step cap n x t → i < n → Choice up one step cap t n i → Block (at step i) (at cap i) (at t i) rest g
      → Taken up one step cap n (x + g) (set t i (at t i + g))
  taken_more x rest i g t small a m d bl = record {
    long = length-set t i (at t i + g) ∙ a.long;
    beyond = λ j l. kept j (λ e. omega arith) ∙ a.beyond j l;
    adds = omega (arith, a.adds, same, sum_to_but n (at t) (at (set t i (at t i + g))) i m (λ j l. kept j));
    settled = settled_block More (First up) more_strict (first_strict up) n (at cap) (merit one step) (merits_fall up one step cap n) (at t) (at (set t i (at t i + g))) i g
        a.settled (d.some m) bl.room flat same (λ j l. kept j);
  }
    where
      same : at (set t i (at t i + g)) i ≡ at t i + g
      same = get_or-set_same t i (at t i + g) 0 (omega (arith, a.long))

      kept : (j : ℕ) → j ≢ i → at (set t i (at t i + g)) j ≡ at t j
      kept j ne = get_or-set_other t i j (at t i + g) 0 ne

      flat : (k : ℕ) → at t i ≤ k → k < at t i + g → merit one step i k ≡ merit one step i (at t i)
      flat k y z = elim bl.level [
        | inl e ↦ (
            let p : at step i * k ≡ 0 = rw e (zero-mul k) in
            let q : at step i * at t i ≡ 0 = rw e (zero-mul (at t i)) in
            omega arith)
        | inr e ↦ (let p : k ≡ at t i = omega arith in rw p refl)
      ]

module _ (up : Bool) (one step span inv cap : List ℕ) (n : ℕ) where
  -- all above a mark
  pub taken_above : (total mark x : ℕ) (t : List ℕ) → Table one step span inv cap n → Marked one step span inv n total mark x → Above one step span inv n mark (replicate lanes 0) t → Taken up one step cap n x t
  taken_above total mark x t tab m a = record {
    long = a.long;
    beyond = λ i l. a.beyond i l ∙ zeros i;
    adds = sum_to_same n (at t) (stock_at one step span inv mark) a.inside ∙ sym m.adds;
    settled = record {
      fits = λ i l. omega (arith, a.inside i l, (stock_counted (tab.source i l) mark).within);
      order = λ i j k l li lj ne kt tl lc.
          let over = (stock_counted (tab.source i li) mark).pass k (omega (arith, a.inside i li)) in
          let under : at one j ≤ mark + at step j * l = elim (dec_lt (mark + at step j * l) (at one j)) [
            | yes y ↦ absurd ((stock_counted (tab.source j lj) mark).fail l (omega (arith, a.inside j lj)) lc y)
            | no y ↦ omega arith
          ] in
          inl (omega (arith, (tab.source j lj).falls.height l lc));
    };
  }

-- the list filled from the front with what is above the mark
module _ (one step span inv : List ℕ) (mark : ℕ) where
  pub above_none : (t : List ℕ) → Above one step span inv 0 mark t t
  above_none t = record { long = refl; inside = λ i l. absurd (omega arith); beyond = λ i l. refl }

  pub above_more : (i q : ℕ) (t u : List ℕ) → length t ≡ lanes → i < lanes → Above one step span inv i mark t u → q ≡ stock_at one step span inv mark i → Above one step span inv (i + 1) mark t (set u i q)
  above_more i q t u long l a e = record {
    long = length-set u i q ∙ a.long;
    inside = rw (add-one i) (below_suc (λ j. at (set u i q) j ≡ stock_at one step span inv mark j) i
        (λ j m. get_or-set_other u i j q 0 (λ d. omega arith) ∙ a.inside j m)
        (get_or-set_same u i q 0 (omega (arith, a.long)) ∙ e));
    beyond = λ j m. get_or-set_other u i j q 0 (λ d. omega arith) ∙ a.beyond j (omega arith);
  }

  pub above_all_lem : (n i : ℕ) (t u : List ℕ) → i ≤ n → n ≤ i → Above one step span inv i mark t u → Above one step span inv n mark t u
  above_all_lem n i t u l m a = let e : i ≡ n = omega arith in rw e at a
