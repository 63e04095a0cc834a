-- What is taken of the rivals alone is what is taken of all: the first MWh of a source below the bar is worse than any MWh that is taken.
use mathlib.Core.Bool.{Bool, true, false}
use mathlib.Core.List.{List}
use mathlib.Core.Logic.{inl, inr, ◌≢◌}
use mathlib.Core.Path.{◌≡◌, refl, sym, ap, ◌∙◌}
use Prim.Native.Nat.{ℕ, zero, suc, ◌+◌, ◌*◌, ◌-◌, ◌≤◌, ◌<◌}
use native.Mathlib.Decide.{dec_lt, ℕ_discrete}
use native.Mathlib.Nat.{mul-le-mul_left}
use native.Mathlib.Omega.{arith}
use lib.ListN.{set, replicate, length-set}
use lib.Seq.{get_or-set_same, get_or-set_other}
use Rattle.dispatch.proofs.Taking.{zeros}
use Rattle.dispatch.specs.Rivals.{Alone, Rivals, Gathered, Spread}
use Rattle.dispatch.specs.Taken.{First, merit, Sources, Taken}
use Rattle.laws.specs.Sums.{sum_to_but, sum_to_part, sum_to_zero}
use Rattle.cutoff.specs.Lines.{lanes, at}
use Rattle.merit.specs.Settled.{More, Beats}
use Rattle.rules.specs.Words as Words
use Rattle.rules.specs.Words.{sum_to}

-- no two parts are more than the sum
sum_to_two : (f : ℕ → ℕ) (n i j : ℕ) → i < n → j < n → i ≢ j → f i + f j ≤ sum_to f n
unfolding Words.sum_to
sum_to_two f zero i j li lj ne = absurd (omega arith)
sum_to_two f (suc n) i j li lj ne = elim (dec_lt i n) [
  | no y ↦ (let e : i ≡ n = omega arith in omega (arith, ap f e, sum_to_part f n j (omega arith)))
  | yes y ↦ elim (dec_lt j n) [
    | no z ↦ (let e : j ≡ n = omega arith in omega (arith, ap f e, sum_to_part f n i y))
    | yes z ↦ omega (arith, sum_to_two f n i j y z ne)
  ]
]

-- of a source with room for the total, the next MWh or the last taken reaches the bar, and so does all that is taken
over_bar : {up : Bool} {one step cap t : List ℕ} {n total bar b : ℕ} → Alone one step cap n total bar b → Taken up one step cap n total t →
    (i k : ℕ) → i < n → k < at t i → bar - 1 ≤ merit one step i k
over_bar {up} {one} {step} {cap} {t} {n} {total} {bar} {b} s a i k l h = elim (ℕ_discrete i b) [
  | yes e ↦ (
      let kt : k ≤ total - 1 = omega (arith, a.adds, sum_to_part (at t) n i l) in
      omega (arith, s.last, ap (at one) e, ap (at step) e, mul-le-mul_left (at step i) kt, ap (λ x. x * (total - 1)) (ap (at step) e)))
  | no ne ↦ (
      let tb : at t b ≤ total - 1 = omega (arith, a.adds, sum_to_two (at t) n i b l s.in_range ne) in
      let few : at t b < at cap b = omega (arith, a.adds, sum_to_two (at t) n i b l s.in_range ne, s.room) in
      let y = mul-le-mul_left (at step b) tb in
      elim (a.settled.order i b k (at t b) l s.in_range ne h (omega arith) few) [
        | inl w ↦ omega (arith, w, y, s.last)
        | inr w ↦ omega (arith, w.0, y, s.last)
      ])
]

pub alone_room : {one step cap : List ℕ} {n total bar : ℕ} → (i : ℕ) × Alone one step cap n total bar i → total ≤ sum_to (at cap) n
alone_room {cap = cap} {n = n} (i, s) = omega (arith, s.room, sum_to_part (at cap) n i s.in_range)

module _ {bar n m : ℕ} {one step cap places os ds cs : List ℕ} (sources : Sources one step cap n) (r : Rivals bar one n places m)
    (o : Gathered one places m os) (d : Gathered step places m ds) (c : Gathered cap places m cs) where
  pub rivals_sources : Sources os ds cs m
  rivals_sources = record {
    n_small = omega (arith, r.placed.few, sources.n_small);
    falls = λ k l. rw (o.same k l, d.same k l, c.same k l) (sources.falls (at places k) (r.placed.below k l));
  }

  -- the source with room for the total is one of them
  pub rivals_alone : {total : ℕ} → (i : ℕ) × Alone one step cap n total bar i → (k : ℕ) × Alone os ds cs m total bar k
  rivals_alone (i, s) =
      let p = r.every i s.in_range (omega (arith, s.last)) in (
        p.0,
        record {
          in_range = p.1;
          room = rw (c.same p.0 p.1, p.2) s.room;
          last = rw (o.same p.0 p.1, d.same p.0 p.1, p.2) s.last;
        },
      )

  module _ {up : Bool} {total : ℕ} {few t : List ℕ} (alone : (k : ℕ) × Alone os ds cs m total bar k) (a : Taken up os ds cs m total few) (s : Spread few places m t) where
    -- what does not reach the bar has nothing
    nothing : (i : ℕ) → at one i < bar → at t i ≡ 0
    nothing i h = s.others i (λ k l e. omega (arith, r.reach k l, ap (at one) e))

    first_kept : (up : Bool) (p q : ℕ) → p < m → q < m → First up p q → First up (at places p) (at places q)
    first_kept false p q lp lq h = r.placed.rising p q h lq
    first_kept true p q lp lq h = r.placed.rising q p h lp

    same_merit : (i p k : ℕ) → p < m → at places p ≡ i → merit os ds p k ≡ merit one step i k
    same_merit i p k l e = rw (o.same p l, d.same p l, e) refl

    -- of two rivals
    between : (i j p q k l : ℕ) → p < m → q < m → at places p ≡ i → at places q ≡ j → i ≢ j → k < at t i → at t j ≤ l → l < at cap j
        → Beats More (First up) i (merit one step i k) j (merit one step j l)
    between i j p q k l lp lq ei ej ne kt tl lc =
        elim (a.settled.order p q k l lp lq (λ e. ne (sym ei ∙ ap (at places) e ∙ ej)) (omega (arith, s.same p lp, ap (at t) ei)) (omega (arith, s.same q lq, ap (at t) ej)) (omega (arith, c.same q lq, ap (at cap) ej))) [
          | inl w ↦ inl (omega (arith, w, same_merit i p k lp ei, same_merit j q l lq ej))
          | inr w ↦ inr (omega (arith, w.0, same_merit i p k lp ei, same_merit j q l lq ej), rw (ei, ej) at (first_kept up p q lp lq w.1))
        ]

    pub rivals_suffice : Taken up one step cap n total t
    rivals_suffice = record {
      long = s.long;
      beyond = λ i l. s.others i (λ k h e. omega (arith, r.placed.below k h));
      adds = s.adds n r.placed.below ∙ a.adds;
      settled = record {
        fits = λ i l. elim (dec_lt (at one i) bar) [
          | yes y ↦ omega (arith, nothing i y)
          | no y ↦ (
              let p = r.every i l (omega arith) in
              omega (arith, s.same p.0 p.1, a.settled.fits p.0 p.1, c.same p.0 p.1, ap (at t) p.2, ap (at cap) p.2))
        ];
        order = λ i j k l li lj ne kt tl lc. elim (dec_lt (at one i) bar) [
          | yes y ↦ absurd (omega (arith, nothing i y))
          | no y ↦ (
              let p = r.every i li (omega arith) in
              elim (dec_lt (at one j) bar) [
                | yes z ↦ (
                    let top = over_bar alone.1 a p.0 k p.1 (omega (arith, s.same p.0 p.1, ap (at t) p.2)) in
                    let key : merit os ds p.0 k ≡ merit one step i k = same_merit i p.0 k p.1 p.2 in
                    inl (omega (arith, top, key, (sources.falls j lj).height l lc)))
                | no z ↦ (
                    let q = r.every j lj (omega arith) in
                    between i j p.0 q.0 k l p.1 q.1 p.2 q.2 ne kt tl lc)
              ])
        ];
      };
    }

-- where one source alone reaches the bar, it gives the total
module _ {one step cap places : List ℕ} {n total bar : ℕ} (sources : Sources one step cap n) (r : Rivals bar one n places 1) (some : 0 < bar) (x : (i : ℕ) × Alone one step cap n total bar i) where
  alone : Alone one step cap n total bar (at places 0)
  alone =
      let p = r.every x.0 x.1.in_range (omega (arith, x.1.last)) in
      let e : 0 ≡ p.0 = omega (arith, p.1) in
      let d : at places 0 ≡ x.0 = ap (at places) e ∙ p.2 in
      rw d x.1

  others_below : (j : ℕ) → j < n → j ≢ at places 0 → at one j < bar
  others_below j l ne = elim (dec_lt (at one j) bar) [
    | yes y ↦ y
    | no y ↦ (
        let p = r.every j l (omega arith) in
        let e : p.0 ≡ 0 = omega (arith, p.1) in
        absurd (ne (sym p.2 ∙ ap (at places) e)))
  ]

  here : at (set (replicate lanes 0) (at places 0) total) (at places 0) ≡ total
  here = get_or-set_same (replicate lanes 0) (at places 0) total 0 (omega (arith, alone.in_range, sources.n_small))

  kept : (j : ℕ) → j ≢ at places 0 → at (set (replicate lanes 0) (at places 0) total) j ≡ 0
  kept j ne = get_or-set_other (replicate lanes 0) (at places 0) j total 0 ne ∙ zeros j

  pub alone_taken : {up : Bool} → Taken up one step cap n total (set (replicate lanes 0) (at places 0) total)
  alone_taken = record {
    long = length-set (replicate lanes 0) (at places 0) total;
    beyond = λ j l. kept j (λ e. omega (arith, alone.in_range));
    adds = omega (
      arith,
      sum_to_but n (at (replicate lanes 0)) (at (set (replicate lanes 0) (at places 0) total)) (at places 0) alone.in_range (λ j l ne. kept j ne ∙ sym (zeros j)),
      sum_to_zero n (at (replicate lanes 0)) (λ j l. zeros j),
      zeros (at places 0),
      here,
    );
    settled = record {
      fits = λ i l. elim (ℕ_discrete i (at places 0)) [
        | yes e ↦ rw e (omega (arith, here, alone.room))
        | no ne ↦ omega (arith, kept i ne)
      ];
      order = λ i j k l li lj ne kt tl lc. elim (ℕ_discrete i (at places 0)) [
        | no d ↦ absurd (omega (arith, kept i d))
        | yes e ↦ (
            let kl : k ≤ total - 1 = omega (arith, here, ap (at (set (replicate lanes 0) (at places 0) total)) e) in
            let top : bar - 1 ≤ merit one step i k = rw e (omega (arith, alone.last, mul-le-mul_left (at step (at places 0)) kl)) in
            inl (omega (arith, top, others_below j lj (λ d. ne (e ∙ sym d)), (sources.falls j lj).height l lc)))
      ];
    };
  }
