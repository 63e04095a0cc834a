-- A group's D lines one by one: the states after those passed, and what they took. Each names a source and a delivery that there are, and no source's percents pass 100.
use Rattle.std.specs.Prelude.{Bool, true, false, List, ◌≡◌, refl, ℕ, ◌+◌, ◌-◌, ◌≤◌, ◌<◌, length, get_or, set}
use Rattle.std.proofs.Math.Path.{sym}
use Rattle.std.proofs.Common.{ap, ◌∙◌, add-one, arith, get_or-set_same, get_or-set_other}
use Rattle.std.proofs.Math.Decide.{dec_lt}
use borrow.Author.Tests.{eq-eqb}
use Rattle.std.proofs.Math.ListN.{get_or-eq_default}
use Rattle.std.proofs.Math.Seq.{set_out}
use Rattle.laws.specs.Sums.{sum_to_zero, sum_to_longer, sum_to_bound, sum_to_but}
use Rattle.merit.specs.LevelNeverBelowB.{Sound, Took, directed_took, state_at, percent_of, percents, Directed, group_lines_directed}
use Rattle.merit.specs.NumbersStaySmall.{Small, took_small}
use Rattle.rules.specs.Group.{no_running, no_direct, directed, group_line, group_lines}
use Rattle.rules.specs.Hour.{took_all}
use Rattle.rules.specs.Words.{when◌then◌else◌, sum_to}
use Rattle.rules.specs.declared.Direct.{Direct}
use Rattle.rules.specs.declared.Running.{Running}
use Rattle.ladder.specs.Ready.{AllReady, took_ready}

abbrev pub line_at : List Direct → ℕ → Direct
line_at lines q = get_or lines q no_direct

pub record LinesFit (asked : ℕ → Bool) (lines : List Direct) (ss : List Running) (n k : ℕ) : Type 0 where
  pub n_small : n ≤ 32
  pub k_small : k ≤ 32
  pub source : (q : ℕ) → q < k → (line_at lines q).source < n
  pub delivery : (q : ℕ) → q < k → (line_at lines q).delivery < 32
  pub sound : (i : ℕ) → Sound (state_at ss i)
  pub small : (i : ℕ) → Small (state_at ss i)
  pub percent : (i : ℕ) → (state_at ss i).percent + percents asked lines i k ≤ 100

-- what `allocate` asks of a line's source
pub record LineFits (s : Running) (line : Direct) : Type 0 where
  pub sound : Sound s
  pub small : Small s
  pub percent : s.percent + line.percent ≤ 100

-- a line takes no less than nothing, and little
pub line_took : (s y : Running) (line : Direct) → LineFits s line → y ≡ directed s line → (s.d ≤ y.d) × (y.d ≤ 2000)
line_took s y line f e =
    let t = directed_took s line f.sound f.percent in
    rw e (t.more, omega (arith, t.sound.part, (took_small s (directed s line) f.small t).b))

pub line_directs : (s y : Running) (line : Direct) → LineFits s line → y ≡ directed s line → Took s y
line_directs s y line f e = rw e (directed_took s line f.sound f.percent)

module _ (asked : ℕ → Bool) (lines : List Direct) (ss : List Running) (n : ℕ) where
  -- after the first q lines: the states, and what those asked for took from the first n sources
  pub record LinesTaken (q : ℕ) (us : List Running) (took : ℕ) : Type 0 where
    pub states : us ≡ group_lines asked lines ss q
    pub sum : took ≡ took_all n ss us

  pub taken_none : LinesTaken 0 ss 0
  unfolding group_lines
  taken_none = record { states = refl; sum = sym (sum_to_zero n (λ i. (state_at ss i).d - (state_at ss i).d) (λ i l. omega arith)) }

  line_more : (q : ℕ) (b : Bool) → asked (line_at lines q).delivery ≡ b → group_lines asked lines ss (q + 1) ≡
      (when b then set (group_lines asked lines ss q) (line_at lines q).source (directed (state_at (group_lines asked lines ss q) (line_at lines q).source) (line_at lines q)) else group_lines asked lines ss q)
  unfolding group_lines group_line
  line_more q b e = rw (add-one q) (rw e refl)

  pub taken_skip : (q took : ℕ) (us : List Running) → LinesTaken q us took → asked (line_at lines q).delivery ≡ false → LinesTaken (q + 1) us took
  taken_skip q took us t e = record { states = t.states ∙ sym (line_more q false e); sum = t.sum }

  pub taken_all : (k q took : ℕ) (us : List Running) → q ≤ k → k ≤ q → LinesTaken q us took → LinesTaken k us took
  taken_all k q took us a b t = let e : q ≡ k = omega arith in rw e at t

  module _ (k : ℕ) (f : LinesFit asked lines ss n k) where
    percents_fit : (q i : ℕ) → q ≤ k → (state_at ss i).percent + percents asked lines i q ≤ 100
    percents_fit q i l = omega (arith, sum_to_longer (λ x. percent_of (asked (line_at lines x).delivery) (line_at lines x) i) q k l, f.percent i)

    passed : (q : ℕ) (us : List Running) (took i : ℕ) → q ≤ k → LinesTaken q us took → Directed (percents asked lines i q) (state_at ss i) (state_at us i)
    passed q us took i l t = rw t.states (group_lines_directed asked lines ss i (f.sound i) q (percents_fit q i l))

    pub taken_took : (q took : ℕ) (us : List Running) → q ≤ k → LinesTaken q us took → (i : ℕ) → Took (state_at ss i) (state_at us i)
    taken_took q took us l t i = (passed q us took i l t).took

    pub taken_ready : (q took : ℕ) (us : List Running) → q ≤ k → LinesTaken q us took → AllReady ss n → AllReady us n
    taken_ready q took us l t r = record { n_small = f.n_small; ready = λ i. took_ready _ _ (r.ready i) (taken_took q took us l t i) }

    pub taken_small : (q took : ℕ) (us : List Running) → q ≤ k → LinesTaken q us took → took ≤ 64_000
    taken_small q took us l t =
        let small : (i : ℕ) → (state_at us i).d - (state_at ss i).d ≤ 2000 = λ i. let d = (passed q us took i l t).took in omega (arith, d.sound.part, (took_small _ _ (f.small i) d).b) in
        omega (arith, t.sum, f.n_small, sum_to_bound (λ i. (state_at us i).d - (state_at ss i).d) 2000 n (λ i m. small i))

    pub line_fits_lem : (q took : ℕ) (us : List Running) → q < k → LinesTaken q us took → asked (line_at lines q).delivery ≡ true → LineFits (state_at us (line_at lines q).source) (line_at lines q)
    unfolding sum_to
    line_fits_lem q took us l t e =
        let a = (line_at lines q).source in
        let more : percents asked lines a (q + 1) ≡ percents asked lines a q + (line_at lines q).percent = rw (add-one q) (rw (e, eq-eqb a a refl) refl) in
        let d = passed q us took a (omega arith) t in
        record { sound = d.took.sound; small = took_small _ _ (f.small a) d.took; percent = omega (arith, d.percent, percents_fit (q + 1) a (omega arith)) }

    -- of one source renewed
    pub taken_take : (q took : ℕ) (us : List Running) (y : Running) → q < k → LinesTaken q us took → asked (line_at lines q).delivery ≡ true →
        y ≡ directed (state_at us (line_at lines q).source) (line_at lines q) →
        LinesTaken (q + 1) (set us (line_at lines q).source y) (took + (y.d - (state_at us (line_at lines q).source).d))
    taken_take q took us y l t e d = record {
      states = rw (d, t.states) (sym (line_more q true e));
      sum = elim (dec_lt a (length us)) [
        | yes b ↦ (
            let same = ap (λ (s : Running). s.d) (get_or-set_same us a y no_running b) in
            omega (
              arith,
              t.sum,
              same,
              took_y.more,
              (passed q us took a (omega arith) t).took.more,
              sum_to_but n (λ i. (state_at us i).d - (state_at ss i).d) (λ i. (state_at (set us a y) i).d - (state_at ss i).d) a (f.source q l)
                  (λ i m g. ap (λ (s : Running). s.d - (state_at ss i).d) (get_or-set_other us a i y no_running g)),
            ))
        | no b ↦ (
            let blank : state_at us a ≡ no_running = get_or-eq_default us no_running {n = a} (omega arith) in
            rw (set_out us a y (omega arith)) (omega (arith, t.sum, took_y.level, ap (λ (s : Running). s.v) blank, ap (λ (s : Running). s.d) blank)))
      ];
    }
      where
        a : ℕ
        a = (line_at lines q).source

        took_y : Took (state_at us a) y
        took_y = let g = line_fits_lem q took us l t e in rw d (directed_took (state_at us a) (line_at lines q) g.sound g.percent)
