-- The ways of the code as rules' Group has them, and what an engine's choice makes of the states: the plain rule.
use Rattle.std.specs.Prelude.{Bool, true, false, List, ◌≡◌, refl, ℕ, ◌+◌, ◌≤◌, ◌<◌, length, set}
use Rattle.std.proofs.Common.{sym, ◌∙◌, arith, length-set, get_or-set_same, get_or-set_other}
use Rattle.std.proofs.Math.Decide.{ℕ_discrete}
use Rattle.curve.specs.Rungs.{rung_of}
use Rattle.curve.specs.declared.Rung.{Rung}
use Rattle.curve.specs.declared.Rung.TheVariants.{Normal, Oil, Emergency, Last}
use Rattle.dispatch.specs.LinesOfPrices.{Lined}
use Rattle.dispatch.specs.Taken.{Taken}
use Rattle.dispatch.specs.TakenIsPlain.{LinesOf, lines_more, unload_is_plain, credit_is_plain}
use Rattle.ladder.specs.declared.Way.{Way}
use Rattle.ladder.specs.declared.Way.TheVariants.{Down, Up}
use Rattle.laws.specs.Choices.{false_not_true}
use Rattle.laws.specs.Sums.{sum_to_same}
use Rattle.cutoff.specs.Lines.{lanes, at}
use Rattle.merit.specs.LevelNeverBelowB.{state_at}
use Rattle.merit.specs.PricesRise.{price}
use Rattle.merit.specs.RemainderMoves.{room_open}
use Rattle.rules.specs.Group.{no_running, level, room, normal, oil, emergency, last, headroom, unloading, crediting, plain, all}
use Rattle.rules.specs.Group as Group
use Rattle.rules.specs.Words.{sum_to}
use Rattle.rules.specs.declared.Running.{Running}
use Rattle.ladder.specs.Ready.{step_of, Ready, Within, AllReady, AllWithin, Shifted, lowered_within, raised_within}

-- of the last step the room alone, above its floors; it goes by averages (LastStep), the others by prices
abbrev pub down_of : Rung → Group.Way
down_of Normal = unloading normal
down_of Oil = unloading oil
down_of Emergency = unloading emergency
down_of Last = unloading last

abbrev pub way_of : Way → Group.Way
way_of (Down x) = down_of x
way_of Up = crediting

abbrev pub up_of : Way → Bool
up_of (Down x) = false
up_of Up = true

abbrev pub priced : Rung → Bool
priced Normal = true
priced Oil = true
priced Emergency = true
priced Last = false

abbrev pub by_price : Way → Bool
by_price (Down x) = priced x
by_price Up = true

pub down_room : (x : Rung) (s : Running) → (down_of x).room s ≡ room (rung_of x) s
down_room Normal s = refl
down_room Oil s = refl
down_room Emergency s = refl
down_room Last s = refl

-- what fits the room may be moved
pub way_within : (way : Way) (s : Running) (k : ℕ) → Ready s → k ≤ (way_of way).room s → Within (up_of way) s k
way_within (Down x) s k r h = lowered_within (rung_of x) s k (omega (arith, down_room x s))
way_within Up s k r h = raised_within s k r h

pub room_small : (way : Way) (s : Running) → Ready s → (way_of way).room s ≤ 2000
room_small (Down x) s r = omega (arith, down_room x s, room_open (rung_of x) s, r.small.v)
room_small Up s r = omega (arith, (raised_within s (headroom s) r (omega arith)).0)

-- the room of a way that is told
pub room_down : (way : Way) (x : Rung) (s : Running) (r : ℕ) → Ready s → way ≡ Down x → r ≡ room (rung_of x) s → (r ≡ (way_of way).room s) × (r ≤ 2000)
room_down way x s r g e h = let z : r ≡ (way_of way).room s = rw e (h ∙ sym (down_room x s)) in (z, omega (arith, room_small way s g))

pub room_up : (way : Way) (s : Running) (r : ℕ) → Ready s → way ≡ Up → r ≡ headroom s → (r ≡ (way_of way).room s) × (r ≤ 2000)
room_up way s r g e h = let z : r ≡ (way_of way).room s = rw e h in (z, omega (arith, room_small way s g))

-- three lists that may hold an engine's lines
pub record Long (one step cap : List ℕ) : Type 0 where
  pub long_one : length one ≡ lanes
  pub long_step : length step ≡ lanes
  pub long_cap : length cap ≡ lanes

module _ {up : Bool} {room_of : Running → ℕ} {ss : List Running} {one step cap : List ℕ} where
  pub long_lines : Long one step cap → LinesOf up room_of ss one step cap 0
  long_lines l = record {
    long_one = l.long_one;
    long_step = l.long_step;
    long_cap = l.long_cap;
    lined = λ i m. absurd (omega arith);
    rooms = λ i m. absurd (omega arith);
  }

  pub lines_long : {n : ℕ} → LinesOf up room_of ss one step cap n → Long one step cap
  lines_long l = record { long_one = l.long_one; long_step = l.long_step; long_cap = l.long_cap }

-- the top of source i's line and its room, put in their places; the step is the plant's alone
pub record LineSet (way : Way) (s : Running) (i : ℕ) (one cap one' cap' : List ℕ) (r : ℕ) : Type 0 where
  pub room : r ≡ (way_of way).room s
  pub small : r ≤ 2000
  pub top : ℕ
  pub one_is : one' ≡ set one i top
  pub cap_is : cap' ≡ set cap i r
  pub lined : Lined (up_of way) (price s.plant) (level s) top (step_of s.plant) r

module _ (way : Way) {ss : List Running} {one step cap one' cap' : List ℕ} {n r : ℕ} (lines : LinesOf (up_of way) (way_of way).room ss one step cap n) where
  -- one source more
  pub lines_next : {step' : List ℕ} → n < lanes → LineSet way (state_at ss n) n one cap one' cap' r → step' ≡ set step n (step_of (state_at ss n).plant) →
      LinesOf (up_of way) (way_of way).room ss one' step' cap' (n + 1)
  lines_next l t e = rw (t.one_is, e, t.cap_is) (lines_more lines l t.lined t.room)

  -- one of them in another state
  pub lines_renewed : (i : ℕ) (y : Running) → n ≤ lanes → i < n → i < length ss → LineSet way y i one cap one' cap' r → at step i ≡ step_of y.plant →
      LinesOf (up_of way) (way_of way).room (set ss i y) one' step cap' n
  lines_renewed i y small l long t e = rw (t.one_is, t.cap_is) (record {
    long_one = length-set one i t.top ∙ lines.long_one;
    long_step = lines.long_step;
    long_cap = length-set cap i r ∙ lines.long_cap;
    lined = λ j m. elim (ℕ_discrete j i) [
      | yes d ↦ rw d (rw (get_or-set_same one i t.top 0 (omega (arith, lines.long_one)), get_or-set_same cap i r 0 (omega (arith, lines.long_cap)), get_or-set_same ss i y no_running long, e) t.lined)
      | no d ↦ rw (get_or-set_other one i j t.top 0 d, get_or-set_other cap i j r 0 d, get_or-set_other ss i j y no_running d) (lines.lined j m)
    ];
    rooms = λ j m. elim (ℕ_discrete j i) [
      | yes d ↦ rw d (rw (get_or-set_same cap i r 0 (omega (arith, lines.long_cap)), get_or-set_same ss i y no_running long) t.room)
      | no d ↦ rw (get_or-set_other cap i j r 0 d, get_or-set_other ss i j y no_running d) (lines.rooms j m)
    ];
  })

-- the lines of all
pub lines_done : (way : Way) {ss : List Running} {one step cap : List ℕ} {up : Bool} {n i : ℕ} → up ≡ up_of way → i ≤ n → n ≤ i →
    LinesOf up (way_of way).room ss one step cap i → LinesOf (up_of way) (way_of way).room ss one step cap n
lines_done way {n = n} {i = i} u a b lines = let e : i ≡ n = omega arith in rw (u, e) at lines

module _ (way : Way) {ss : List Running} {one step cap : List ℕ} {n total : ℕ} (lines : LinesOf (up_of way) (way_of way).room ss one step cap n) where
  -- the lines' room is the sources'
  pub lines_room : total ≤ all (way_of way).room ss n → total ≤ sum_to (at cap) n
  lines_room h = omega (arith, sum_to_same n (at cap) (λ i. (way_of way).room (state_at ss i)) lines.rooms)

  pub taken_within : {t : List ℕ} → AllReady ss n → Taken (up_of way) one step cap n total t → AllWithin (up_of way) ss n (at t)
  taken_within {t} r a = record {
    all = r;
    within = λ i l. way_within way (state_at ss i) (at t i) (r.ready i) (omega (arith, a.settled.fits i l, lines.rooms i l));
  }

-- what an engine takes is what the plain rule moves
module _ {ss : List Running} {one step cap : List ℕ} {n total : ℕ} {t : List ℕ} {us : List Running} (r : AllReady ss n) where
  unloaded : (x : Group.Rung) → (x ≡ last → ⊥) → LinesOf false (room x) ss one step cap n → Taken false one step cap n total t → Shifted false ss n (at t) us → us ≡ plain (unloading x) n ss total
  unloaded x nl lines a m =
      unload_is_plain n ss (λ i l. (r.ready i).sound) (λ i l. (r.ready i).levels) x nl lines a us m.long m.inside m.beyond

  pub engine_plain : (way : Way) → by_price way ≡ true → LinesOf (up_of way) (way_of way).room ss one step cap n → Taken (up_of way) one step cap n total t → Shifted (up_of way) ss n (at t) us →
      us ≡ plain (way_of way) n ss total
  engine_plain (Down Normal) p = unloaded normal (λ e. let o : ◌≡◌ {A = ℕ} 0 1 = cc in omega arith)
  engine_plain (Down Oil) p = unloaded oil (λ e. let o : ◌≡◌ {A = ℕ} 0 1 = cc in omega arith)
  engine_plain (Down Emergency) p = unloaded emergency (λ e. let o : ◌≡◌ {A = ℕ} 0 1 = cc in omega arith)
  engine_plain (Down Last) p = false_not_true p
  engine_plain Up p = λ lines a m. credit_is_plain n ss (λ i l. (r.ready i).sound) (λ i l. (r.ready i).levels) lines a us m.long m.inside m.beyond
