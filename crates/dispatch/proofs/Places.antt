-- The loops that find the rivals' places, gather what stands there and spread it again.
use mathlib.Core.List.{List}
use mathlib.Core.Logic.{◌≢◌}
use mathlib.Core.Path.{◌≡◌, refl, sym, ap, ◌∙◌}
use Prim.Native.Nat.{ℕ, ◌+◌, ◌-◌, ◌≤◌, ◌<◌}
use native.Mathlib.Decide.{dec_lt}
use native.Mathlib.Numerals.{add-one}
use native.Mathlib.Omega.{arith}
use lib.ListN.{length, set, replicate, length-set}
use lib.Seq.{get_or-set_same, get_or-set_other}
use Rattle.dispatch.proofs.Taking.{zeros}
use Rattle.dispatch.specs.Rivals.{Bar, Places, Rivals, Gathered, Spread}
use Rattle.dispatch.specs.Taken.{Next}
use Rattle.laws.specs.Sums.{below_suc, sum_to_but, sum_to_more, sum_to_none, sum_to_zero}
use Rattle.cutoff.specs.Lines.{lanes, at, Falls}
use Rattle.rules.specs.Words.{sum_to}

module _ (one step cap : List ℕ) (total : ℕ) where
  pub bar_none : Bar one step cap 0 total 0
  bar_none = record { some = λ l. absurd (omega arith) }

  pub bar_keep : (bar i : ℕ) → Bar one step cap i total bar → Bar one step cap (i + 1) total bar
  bar_keep bar i s = record {
    some = λ l. ((s.some l).0, record { in_range = omega (arith, (s.some l).1.in_range); room = (s.some l).1.room; last = (s.some l).1.last });
  }

  pub bar_take : (m i : ℕ) → Falls (at one i) (at step i) (at cap i) → Next (at one i) (at step i) (at cap i) (total - 1) m → Bar one step cap (i + 1) total m
  bar_take m i f x = record {
    some = λ l. elim (dec_lt (total - 1) (at cap i)) [
      | yes r ↦ (i, record { in_range = omega arith; room = omega arith; last = omega (arith, x.left r, f.height (total - 1) r) })
      | no r ↦ absurd (omega (arith, x.none (omega arith)))
    ];
  }

  pub bar_all : (n i bar : ℕ) → i ≤ n → n ≤ i → Bar one step cap i total bar → Bar one step cap n total bar
  bar_all n i bar l m s = let e : i ≡ n = omega arith in rw e at s

module _ (bar : ℕ) (one : List ℕ) where
  pub rivals_none : (places : List ℕ) → length places ≡ lanes → Rivals bar one 0 places 0
  rivals_none places e = record {
    long = e;
    placed = record { few = omega arith; below = λ k l. absurd (omega arith); rising = λ k l a b. absurd (omega arith) };
    reach = λ k l. absurd (omega arith);
    every = λ i l. absurd (omega arith);
  }

  module _ (i m : ℕ) (places : List ℕ) (s : Rivals bar one i places m) where
    kept : (k : ℕ) → k < m → at (set places m i) k ≡ at places k
    kept k l = get_or-set_other places m k i 0 (λ e. omega arith)

    pub rivals_skip : at one i < bar → Rivals bar one (i + 1) (set places m i) m
    rivals_skip h = record {
      long = length-set places m i ∙ s.long;
      placed = record {
        few = omega (arith, s.placed.few);
        below = λ k l. omega (arith, kept k l, s.placed.below k l);
        rising = λ k l a b. omega (arith, kept k (omega arith), kept l b, s.placed.rising k l a b);
      };
      reach = λ k l. rw (kept k l) (s.reach k l);
      every = λ j l r. elim (dec_lt j i) [
        | yes y ↦ (let p = s.every j y r in (p.0, p.1, kept p.0 p.1 ∙ p.2))
        | no y ↦ (let e : j ≡ i = omega arith in absurd (omega (arith, ap (at one) e)))
      ];
    }

    pub rivals_take : i < lanes → bar ≤ at one i → Rivals bar one (i + 1) (set places m i) (m + 1)
    rivals_take small h = record {
      long = length-set places m i ∙ s.long;
      placed = record {
        few = omega (arith, s.placed.few);
        below = rw (add-one m) (below_suc (λ k. at (set places m i) k < i + 1) m (λ k l. omega (arith, kept k l, s.placed.below k l)) (omega (arith, here)));
        rising = λ k l a b. elim (dec_lt l m) [
          | yes y ↦ omega (arith, kept k (omega arith), kept l y, s.placed.rising k l a y)
          | no y ↦ (let e : l ≡ m = omega arith in rw e (omega (arith, here, kept k (omega arith), s.placed.below k (omega arith))))
        ];
      };
      reach = rw (add-one m) (below_suc (λ k. bar ≤ at one (at (set places m i) k)) m (λ k l. rw (kept k l) (s.reach k l)) (rw here h));
      every = λ j l r. elim (dec_lt j i) [
        | yes y ↦ (let p = s.every j y r in (p.0, omega (arith, p.1), kept p.0 p.1 ∙ p.2))
        | no y ↦ (m, omega arith, here ∙ omega arith)
      ];
    }
      where
        here : at (set places m i) m ≡ i
        here = get_or-set_same places m i 0 (omega (arith, s.long, s.placed.few))

  pub rivals_all : (n i m : ℕ) (places : List ℕ) → i ≤ n → n ≤ i → Rivals bar one i places m → Rivals bar one n places m
  rivals_all n i m places l h s = let e : i ≡ n = omega arith in rw e at s

pub places_wider : {n w m : ℕ} {places : List ℕ} → n ≤ w → Places n places m → Places w places m
places_wider h s = record { few = omega (arith, s.few); below = λ k l. omega (arith, s.below k l); rising = s.rising }

module _ (all places : List ℕ) where
  pub gathered_none : (few : List ℕ) → length few ≡ lanes → Gathered all places 0 few
  gathered_none few e = record { long = e; same = λ k l. absurd (omega arith) }

  pub gathered_more : (k : ℕ) (few : List ℕ) → k < lanes → Gathered all places k few → Gathered all places (k + 1) (set few k (at all (at places k)))
  gathered_more k few l s = record {
    long = length-set few k _ ∙ s.long;
    same = rw (add-one k) (below_suc (λ j. at (set few k (at all (at places k))) j ≡ at all (at places j)) k
        (λ j h. get_or-set_other few k j _ 0 (λ e. omega arith) ∙ s.same j h)
        (get_or-set_same few k _ 0 (omega (arith, s.long))));
  }

  pub gathered_all : (m k : ℕ) (few : List ℕ) → k ≤ m → m ≤ k → Gathered all places k few → Gathered all places m few
  gathered_all m k few l h s = let e : k ≡ m = omega arith in rw e at s

module _ (few places : List ℕ) where
  pub spread_none : Spread few places 0 (replicate lanes 0)
  spread_none = record {
    long = refl;
    same = λ k l. absurd (omega arith);
    others = λ i h. zeros i;
    adds = λ n h. sum_to_zero n (at (replicate lanes 0)) (λ i l. zeros i) ∙ sum_to_none (at few);
  }

  pub spread_more : (m k : ℕ) (all : List ℕ) → Places lanes places m → k < m → Spread few places k all → Spread few places (k + 1) (set all (at places k) (at few k))
  spread_more m k all p l s = record {
    long = length-set all (at places k) (at few k) ∙ s.long;
    same = rw (add-one k) (below_suc (λ j. at (set all (at places k) (at few k)) (at places j) ≡ at few j) k
        (λ j h. kept (at places j) (λ e. omega (arith, p.rising j k h l)) ∙ s.same j h)
        here);
    others = λ i h. kept i (λ e. h k (omega arith) (sym e)) ∙ s.others i (λ j y. h j (omega arith));
    adds = λ n h. omega (
      arith,
      sum_to_but n (at all) (at (set all (at places k) (at few k))) (at places k) (h k (omega arith)) (λ j y. kept j),
      here,
      s.others (at places k) (λ j y e. omega (arith, p.rising j k y l)),
      s.adds n (λ j y. h j (omega arith)),
      sum_to_more (at few) k (sum_to (at few) k) (at few k) refl refl,
    );
  }
    where
      here : at (set all (at places k) (at few k)) (at places k) ≡ at few k
      here = get_or-set_same all (at places k) (at few k) 0 (omega (arith, s.long, p.below k l))

      kept : (i : ℕ) → i ≢ at places k → at (set all (at places k) (at few k)) i ≡ at all i
      kept i ne = get_or-set_other all (at places k) i (at few k) 0 ne

  pub spread_all : (m k : ℕ) (all : List ℕ) → k ≤ m → m ≤ k → Spread few places k all → Spread few places m all
  spread_all m k all l h s = let e : k ≡ m = omega arith in rw e at s
