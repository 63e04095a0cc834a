-- What holds of every running state (`Sound`): its level is never below b, D is b·P/100 rounded down and at most b.
-- An opened source has it, D lines keep it while the percents are at most 100, and so does any move of open energy within the room or upwards.
use Rattle.std.specs.Prelude.{Bool, true, false, ◌&&◌, List, ◌≡◌, refl, ℕ, zero, suc, ◌+◌, ◌-◌, ◌*◌, ◌/◌, ◌≤◌, min, max, eqb, length, get_or, set}
use Rattle.std.proofs.Common.{sym, ap, ◌∙◌, le_trans, mul-le-mul_left, mul-zero, arith, eq-eqb, get_or-set_same, get_or-set_other}
use Rattle.std.proofs.Math.Decide.{dec_lt, ℕ_discrete}
use Rattle.std.proofs.Math.Seq.{set_out}
use Rattle.laws.specs.Choices.{true_not_false}
use Rattle.laws.specs.Sums.{div_grows, part_most}
use Rattle.merit.specs.ChangedFromB.{Starts, changed_under, changed_zero}
use Rattle.rules.specs.Group.{no_running, no_direct, level, changed, charged, basis, with_basic, renewed, directed, group_line, group_lines, opened, with_open, Rung, normal, oil, emergency, last, floor, room, lowered, raised}
use Rattle.rules.specs.Units.{curve_cost, movable}
use Rattle.rules.specs.Words.{when◌then◌else◌, sum_to}
use Rattle.rules.specs.declared.Basis.{Basis}
use Rattle.rules.specs.declared.Direct.{Direct}
use Rattle.rules.specs.declared.Plant.{Plant}
use Rattle.rules.specs.declared.Running.{Running}

pub record Sound (s : Running) : Type 0 where
  pub starts : Starts s.plant
  pub above : s.b ≤ level s
  pub share : s.d ≡ s.b * s.percent / 100
  pub part : s.d ≤ s.b
  pub unset : s.based ≡ false → (s.b ≡ 0) × (s.percent ≡ 0)

pub opened_sound : (p : Plant) → Starts p → Sound (opened p)
opened_sound p z =
    record {
      starts = z;
      above = omega arith;
      share = refl;
      part = omega arith;
      unset = λ e. (refl, refl);
    }

-- Direct.

-- what D lines do to a source: energy goes from v to D, and b stays once it is set
pub record Took (s t : Running) : Type 0 where
  pub plant : t.plant ≡ s.plant
  pub level : level t ≡ level s
  pub more : s.d ≤ t.d
  pub charged : charged s ≤ charged t
  pub stays : s.based ≡ true → (t.based ≡ true) × (t.b ≡ s.b)
  pub basic : t.b ≤ max s.b s.v
  pub sound : Sound t

pub took_none : (s : Running) → Sound s → Took s s
took_none s g = record { plant = refl; level = refl; more = omega arith; charged = omega arith; stays = λ e. (e, refl); basic = omega arith; sound = g }

pub took_then : (s t u : Running) → Took s t → Took t u → Took s u
took_then s t u a b =
    record {
      plant = b.plant ∙ a.plant;
      level = b.level ∙ a.level;
      more = le_trans a.more b.more;
      charged = le_trans a.charged b.charged;
      stays = λ e. (let x = a.stays e in let y = b.stays x.0 in (y.0, y.1 ∙ x.1));
      basic = omega (arith, a.basic, b.basic, a.level, a.more);
      sound = b.sound;
    }

-- with b set, D renewed
renewed_took : (s : Running) (p : ℕ) → Sound s → s.based ≡ true → s.percent ≤ p → p ≤ 100 → Took s (renewed s p)
unfolding changed
renewed_took s p g e l h =
    let a : s.b * s.percent / 100 ≤ s.b * p / 100 = div_grows _ _ 100 (mul-le-mul_left s.b l) in
    let c : s.b * p / 100 ≤ s.b = part_most s.b p 100 h in
    let f : s.b ≤ s.v + s.d = g.above in
    let k : s.d ≡ s.b * s.percent / 100 = g.share in
    let w : changed s s.d ≤ changed s (s.b * p / 100) = changed_under s e s.d (s.b * p / 100) (omega arith) c in
    record {
      plant = refl;
      level = omega arith;
      more = omega arith;
      charged = w;
      stays = λ z. (e, refl);
      basic = omega arith;
      sound = record { starts = g.starts; above = omega arith; share = refl; part = c; unset = λ z. true_not_false (sym e ∙ z) };
    }

-- b set where it is not
based_took : (t : Bool) (p : Plant) (v d b c : ℕ) (y : Basis) → let s : Running = record { plant = p; v = v; d = d; b = b; based = t; percent = c } in
    Sound s → Took s (with_basic s y)
based_took true p v d b c y g = took_none _ g
based_took false p v d b c y g =
    let s : Running = record { plant = p; v = v; d = d; b = b; based = false; percent = c } in
    let n = g.unset refl in
    let l : d ≤ b = g.part in
    let d0 : d ≡ 0 = omega (arith, n.0) in
    let z : (min v (basis y p)) * c / 100 ≡ 0 = rw (n.1, mul-zero (min v (basis y p))) in
    record {
      plant = refl;
      level = refl;
      more = omega arith;
      charged = omega (arith, ap (changed s) d0 ∙ changed_zero s g.starts);
      stays = λ e. true_not_false (sym e);
      basic = omega arith;
      sound = record {
        starts = g.starts;
        above = omega arith;
        share = d0 ∙ sym z;
        part = omega arith;
        unset = λ e. true_not_false e;
      };
    }

-- one D line
pub directed_took : (s : Running) (line : Direct) → Sound s → s.percent + line.percent ≤ 100 → Took s (directed s line)
unfolding directed
directed_took s line g h =
    let a = based_took s.based s.plant s.v s.d s.b s.percent line.basis g in
    took_then s (with_basic s line.basis) _ a (renewed_took (with_basic s line.basis) (s.percent + line.percent) a.sound refl (omega arith) h)

-- Of all sources.

abbrev pub state_at : List Running → ℕ → Running
state_at ss i = get_or ss i no_running

pub blank_sound : Sound no_running
unfolding changed curve_cost
blank_sound = record { starts = refl; above = omega arith; share = refl; part = omega arith; unset = λ e. (refl, refl) }

-- a list with one entry renewed, read anywhere
read_set : (P : Running → Running → Type 0) (ss : List Running) (a : ℕ) (y : Running) (i : ℕ) → (i ≡ a → P (state_at ss i) y) → P (state_at ss i) (state_at ss i) → P (state_at ss i) (state_at (set ss a y) i)
read_set P ss a y i f g = elim (ℕ_discrete i a) [
  | yes e ↦ (elim (dec_lt a (length ss)) [
    | yes l ↦ (let z : state_at (set ss a y) i ≡ y = rw e (get_or-set_same ss a y no_running l) in rw z (f e))
    | no l ↦ (let z : set ss a y ≡ ss = set_out ss a y (omega arith) in rw z g)
  ])
  | no e ↦ (let z : state_at (set ss a y) i ≡ state_at ss i = get_or-set_other ss a i y no_running e in rw z g)
]

-- the percent that a line takes of source i, if the line is one of those asked for
abbrev pub percent_of : Bool → Direct → ℕ → ℕ
percent_of x line i = when x && eqb line.source i then line.percent else 0

-- of the first k lines, those whose deliveries are asked for
abbrev pub percents : (ℕ → Bool) → List Direct → ℕ → ℕ → ℕ
percents asked lines i k = sum_to (λ q. percent_of (asked (get_or lines q no_direct).delivery) (get_or lines q no_direct) i) k

-- D lines took from s and left t, with at most p percent more
pub record Directed (p : ℕ) (s t : Running) : Type 0 where
  pub took : Took s t
  pub percent : t.percent ≤ s.percent + p

line_directed : (x : Bool) (line : Direct) (ss : List Running) (i : ℕ) → Sound (state_at ss i) → (state_at ss i).percent + percent_of x line i ≤ 100 →
    Directed (percent_of x line i) (state_at ss i) (state_at (when x then set ss line.source (directed (state_at ss line.source) line) else ss) i)
unfolding directed
line_directed false line ss i g h = record { took = took_none _ g; percent = omega arith }
line_directed true line ss i g h =
    read_set (Directed (percent_of true line i)) ss line.source (directed (state_at ss line.source) line) i
    (λ e. let z : eqb line.source i ≡ true = eq-eqb _ _ (sym e) in
    let h' : (state_at ss i).percent + line.percent ≤ 100 = rw z at h in
    rw (z, ← e) (record { took = directed_took (state_at ss i) line g h'; percent = omega arith }))
    (record { took = took_none _ g; percent = omega arith })

-- all D lines of a group
pub group_lines_directed : (asked : ℕ → Bool) (lines : List Direct) (ss : List Running) (i : ℕ) → Sound (state_at ss i) → (k : ℕ) → (state_at ss i).percent + percents asked lines i k ≤ 100 →
    Directed (percents asked lines i k) (state_at ss i) (state_at (group_lines asked lines ss k) i)
unfolding sum_to group_lines group_line
group_lines_directed asked lines ss i g zero h = record { took = took_none _ g; percent = omega arith }
group_lines_directed asked lines ss i g (suc k) h =
    let a = group_lines_directed asked lines ss i g k (omega arith) in
    let b = line_directed (asked (get_or lines k no_direct).delivery) (get_or lines k no_direct) (group_lines asked lines ss k) i a.took.sound (omega (arith, a.percent)) in
    record { took = took_then _ _ _ a.took b.took; percent = omega (arith, a.percent, b.percent) }

-- Remainder.

-- what a remainder does to a source: v alone is renewed, and the level stays at or above b
pub record Moved (s u : Running) : Type 0 where
  pub v : ℕ
  pub is : u ≡ with_open s v
  pub above : s.b ≤ v + s.d

open_sound : (s : Running) (v : ℕ) → Sound s → s.b ≤ v + s.d → Sound (with_open s v)
unfolding changed
open_sound s v g h = record { starts = g.starts; above = h; share = g.share; part = g.part; unset = g.unset }

pub moved_sound : (s u : Running) → Sound s → Moved s u → Sound u
moved_sound s u g m = rw m.is (open_sound s m.v g m.above)

pub lowered_moved : (x : Rung) (s : Running) (y : ℕ) → Sound s → y ≤ room x s → Moved s (lowered s y)
unfolding room
lowered_moved x s y g h = record { v = s.v - y; is = refl; above = go x (movable s.plant) h }
  where
    go : (x : Rung) (m : Bool) → y ≤ (when m then s.v - floor x s else 0) → s.b ≤ (s.v - y) + s.d
    go normal true h = omega (arith, g.above)
    go oil true h = omega (arith, g.above)
    go emergency true h = omega (arith, g.above)
    go last true h = omega (arith, g.above)
    go x false h = omega (arith, g.above)

pub raised_moved : (s : Running) (y : ℕ) → Sound s → Moved s (raised s y)
raised_moved s y g = record { v = s.v + y; is = refl; above = omega (arith, g.above) }
