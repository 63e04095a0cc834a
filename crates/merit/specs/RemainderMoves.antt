-- What a remainder comes to. Unloading is the plain rule on one rung of the ladder, or the last step after the emergency floors, or it is refused;
-- credit is the plain rule, or it is refused. One that is accepted moves just the remainder, and leaves each source at or above its b.
use Rattle.std.specs.Prelude.{Bool, List, ℕ, ◌+◌, ◌-◌, ◌≤◌, ◌<◌}
use Rattle.std.proofs.Math.Bool.{true, false}
use Rattle.std.proofs.Math.Path.{◌≡◌, refl}
use Rattle.std.proofs.Common.{sym, ap, ◌∙◌, arith, leb-true, leb-false}
use Rattle.std.proofs.Math.Dec.{leb}
use Rattle.std.proofs.Math.ListN.{get_or-map}
use Rattle.laws.specs.Choices.{refused_not_accepted, accepted_same}
use Rattle.laws.specs.Sums.{sum_to_add, sum_to_most, sum_to_same}
use Rattle.merit.specs.LevelNeverBelowB.{Sound, state_at, Moved, lowered_moved, raised_moved}
use Rattle.merit.specs.PlainMoves.{Tracks, moved_by, plain_tracks, moved_by_sum, lowered_room, unloading_stepwise, last_stepwise, crediting_stepwise}
use Rattle.rules.specs.Group.{no_running, floor, Rung, normal, oil, emergency, last, room, headroom, with_open, lowered, raised, unit_room, plain, unloading, last_step, crediting, all, to_emergency, unload, credit, remainder}
use Rattle.rules.specs.Refusals.{Outcome, accepted, refused}
use Rattle.rules.specs.Units.{movable}
use Rattle.rules.specs.Words.{when◌then◌else◌, sum_to}
use Rattle.rules.specs.declared.InternalSequence.{InternalSequence}
use Rattle.rules.specs.declared.Refusal.TheVariants.{NoRoom, NoHeadroom}
use Rattle.rules.specs.declared.Plant.{Plant}
use Rattle.rules.specs.declared.Plant.TheVariants.{Unit as U, Purchase as P, Fixed as F}
use Rattle.rules.specs.declared.Running.{Running}

-- the last step's floors are the lowest
pub room_last : (x : Rung) (s : Running) → room x s ≤ room last s
unfolding room
room_last x s = go x (movable s.plant)
  where
    go : (x : Rung) (m : Bool) → (when m then s.v - floor x s else 0) ≤ (when m then s.v - floor last s else 0)
    go normal true = omega arith
    go oil true = omega arith
    go emergency true = omega arith
    go last true = omega arith
    go x false = omega arith

pub rooms_last : (x : Rung) (ss : List Running) (n : ℕ) → all (room x) ss n ≤ all (room last) ss n
rooms_last x ss n = sum_to_most n (λ i. room x (state_at ss i)) (λ i. room last (state_at ss i)) (λ i l. room_last x (state_at ss i))

pub room_open : (x : Rung) (s : Running) → room x s ≤ s.v
unfolding room
room_open x s = go (movable s.plant)
  where
    go : (m : Bool) → (when m then s.v - floor x s else 0) ≤ s.v
    go true = omega arith
    go false = omega arith

-- the ladder
module _ (number : InternalSequence) (n : ℕ) (ss : List Running) (r : ℕ) where
  pub data Unloaded : Outcome (List Running) → Type 0 where
    rung : (x : Rung) → (x ≡ last → ⊥) → r ≤ all (room x) ss n → Unloaded (accepted (plain (unloading x) n ss r))
    bottom : all (room emergency) ss n < r → r ≤ all (room last) ss n → Unloaded (accepted (plain last_step n (to_emergency ss) (r - all (room emergency) ss n)))
    no_room : all (room last) ss n < r → Unloaded (refused (NoRoom number))

  pub unload_is : Unloaded (unload number n ss r)
  unfolding unload
  unload_is = go (leb r (all (room normal) ss n)) refl (leb r (all (room oil) ss n)) refl (leb r (all (room emergency) ss n)) refl (leb r (all (room last) ss n)) refl
    where
      go : (a : Bool) → leb r (all (room normal) ss n) ≡ a → (b : Bool) → leb r (all (room oil) ss n) ≡ b → (c : Bool) → leb r (all (room emergency) ss n) ≡ c → (d : Bool) → leb r (all (room last) ss n) ≡ d →
          Unloaded (when a then accepted (plain (unloading normal) n ss r) else when b then accepted (plain (unloading oil) n ss r) else
          when c then accepted (plain (unloading emergency) n ss r) else
          when d then accepted (plain last_step n (to_emergency ss) (r - all (room emergency) ss n)) else refused (NoRoom number))
      go true x b y c z d w = rung normal (λ e. let o : ◌≡◌ {A = ℕ} 0 1 = cc in omega arith) (leb-true r (all (room normal) ss n) x)
      go false x true y c z d w = rung oil (λ e. let o : ◌≡◌ {A = ℕ} 0 1 = cc in omega arith) (leb-true r (all (room oil) ss n) y)
      go false x false y true z d w = rung emergency (λ e. let o : ◌≡◌ {A = ℕ} 0 1 = cc in omega arith) (leb-true r (all (room emergency) ss n) z)
      go false x false y false z true w = bottom (leb-false r (all (room emergency) ss n) z) (leb-true r (all (room last) ss n) w)
      go false x false y false z false w = no_room (leb-false r (all (room last) ss n) w)

  pub data Credited : Outcome (List Running) → Type 0 where
    raising : r ≤ all headroom ss n → Credited (accepted (plain crediting n ss r))
    no_headroom : all headroom ss n < r → Credited (refused (NoHeadroom number))

  pub credit_is : Credited (credit number n ss r)
  unfolding credit
  credit_is = go (leb r (all headroom ss n)) refl
    where
      go : (a : Bool) → leb r (all headroom ss n) ≡ a → Credited (when a then accepted (plain crediting n ss r) else refused (NoHeadroom number))
      go true x = raising (leb-true r (all headroom ss n) x)
      go false x = no_headroom (leb-false r (all headroom ss n) x)

-- us is ss with r MWh in all moved, of each source at most its room
pub record Spread (room : Running → ℕ) (moved : Running → ℕ → Running) (n r : ℕ) (ss us : List Running) : Type 0 where
  pub t : ℕ → ℕ
  pub tracks : Tracks room moved ss us t
  pub sum : sum_to t n ≡ r

-- all to their emergency floors
emergency_at : (ss : List Running) (i : ℕ) → state_at (to_emergency ss) i ≡ lowered (state_at ss i) (room emergency (state_at ss i))
unfolding to_emergency room
emergency_at ss i = get_or-map (λ (s : Running). lowered s (room emergency s)) ss i no_running

emergency_room_lem : (ss : List Running) (i : ℕ) → room last (state_at (to_emergency ss) i) + room emergency (state_at ss i) ≡ room last (state_at ss i)
emergency_room_lem ss i =
    omega (arith, ap (room last) (emergency_at ss i) ∙ lowered_room last (state_at ss i) (room emergency (state_at ss i)), room_last emergency (state_at ss i))

-- of a purchase nothing is left above b - D then, for its emergency floor is b - D
emergency_empties : (s : Running) → unit_room (lowered s (room emergency s)) ≡ room last (lowered s (room emergency s))
unfolding unit_room room
emergency_empties s = go s.plant refl
  where
    go : (p : Plant) → s.plant ≡ p → unit_room (lowered s (room emergency s)) ≡ room last (lowered s (room emergency s))
    go (U u) e = rw e
    go (P g rate) e = rw e (omega arith)
    go (F g) e = rw e

pub emergency_leaves : (ss : List Running) (i : ℕ) → unit_room (state_at (to_emergency ss) i) ≡ room last (state_at (to_emergency ss) i)
emergency_leaves ss i = rw (emergency_at ss i) (emergency_empties (state_at ss i))

-- the last step after the emergency floors
bottom_spread : (n : ℕ) (ss : List Running) (r : ℕ) → all (room emergency) ss n < r → r ≤ all (room last) ss n →
    Spread (room last) lowered n r ss (plain last_step n (to_emergency ss) (r - all (room emergency) ss n))
bottom_spread n ss r a b =
    record {
      t = λ i. room emergency (state_at ss i) + rest i;
      tracks = record {
        is = λ i. tracks.is i ∙ ap (λ (s : Running). lowered s (rest i)) (emergency_at ss i) ∙ ap (with_open (state_at ss i)) (omega arith);
        fits = λ i. omega (arith, tracks.fits i, emergency_leaves ss i, emergency_room_lem ss i);
      };
      sum =
          let e = sum_to_add n (λ i. room last (state_at (to_emergency ss) i)) (λ i. room emergency (state_at ss i)) (λ i. room last (state_at ss i)) (λ i l. emergency_room_lem ss i) in
          sym (sum_to_add n (λ i. room emergency (state_at ss i)) rest _ (λ i l. refl)) ∙
          omega (arith, moved_by_sum last_step last_stepwise n (to_emergency ss) (r - all (room emergency) ss n) (omega (arith, left)));
    }
  where
    rest : ℕ → ℕ
    rest = moved_by last_step n (to_emergency ss) (r - all (room emergency) ss n)

    left : all unit_room (to_emergency ss) n ≡ all (room last) (to_emergency ss) n
    left = sum_to_same n (λ i. unit_room (state_at (to_emergency ss) i)) (λ i. room last (state_at (to_emergency ss) i)) (λ i l. emergency_leaves ss i)

    tracks : Tracks unit_room lowered (to_emergency ss) (plain last_step n (to_emergency ss) (r - all (room emergency) ss n)) rest
    tracks = plain_tracks last_step last_stepwise n (to_emergency ss) (r - all (room emergency) ss n)

pub unload_spread : (number : InternalSequence) (n : ℕ) (ss : List Running) (r : ℕ) (us : List Running) → unload number n ss r ≡ accepted us → Spread (room last) lowered n r ss us
unload_spread number n ss r us e = go (unload number n ss r) (unload_is number n ss r) e
  where
    go : (o : Outcome (List Running)) → Unloaded number n ss r o → o ≡ accepted us → Spread (room last) lowered n r ss us
    go o (rung x _ h) q =
        let k = plain_tracks (unloading x) (unloading_stepwise x) n ss r in
        rw (← accepted_same _ us q)
        (record {
          t = moved_by (unloading x) n ss r;
          tracks = record { is = k.is; fits = λ i. omega (arith, k.fits i, room_last x (state_at ss i)) };
          sum = moved_by_sum (unloading x) (unloading_stepwise x) n ss r h;
        })
    go o (bottom a b) q = rw (← accepted_same _ us q) (bottom_spread n ss r a b)
    go o (no_room h) q = refused_not_accepted (NoRoom number) us q

pub credit_spread : (number : InternalSequence) (n : ℕ) (ss : List Running) (r : ℕ) (us : List Running) → credit number n ss r ≡ accepted us → Spread headroom raised n r ss us
credit_spread number n ss r us e = go (credit number n ss r) (credit_is number n ss r) e
  where
    go : (o : Outcome (List Running)) → Credited number n ss r o → o ≡ accepted us → Spread headroom raised n r ss us
    go o (raising h) q =
        rw (← accepted_same _ us q)
        (record { t = moved_by crediting n ss r; tracks = plain_tracks crediting crediting_stepwise n ss r; sum = moved_by_sum crediting crediting_stepwise n ss r h })
    go o (no_headroom h) q = refused_not_accepted (NoHeadroom number) us q

-- the open energy of the first n sources
abbrev pub open_all : List Running → ℕ → ℕ
open_all ss n = all (λ s. s.v) ss n

-- what it does to a source
pub data Shift (s : Running) : Running → Type 0 where
  down : (t : ℕ) → t ≤ room last s → Shift s (lowered s t)
  up : (t : ℕ) → t ≤ headroom s → Shift s (raised s t)

pub shift_moved : {s u : Running} → Sound s → Shift s u → Moved s u
shift_moved {s} g (down t h) = lowered_moved last s t g h
shift_moved {s} g (up t h) = raised_moved s t g

-- what an accepted remainder has done: each source is shifted, the D lines' MWh are given back to the open energy and the total is taken from it
pub record Remaindered (n total took : ℕ) (ts us : List Running) : Type 0 where
  pub each : (i : ℕ) → Shift (state_at ts i) (state_at us i)
  pub net : open_all us n + total ≡ open_all ts n + took

pub remainder_moves : (number : InternalSequence) (n total took : ℕ) (ts us : List Running) → remainder number n total took ts ≡ accepted us → Remaindered n total took ts us
unfolding remainder
remainder_moves number n total took ts us e = go (leb took total) refl e
  where
    opens : (i y : ℕ) → state_at us i ≡ with_open (state_at ts i) y → (state_at us i).v ≡ y
    opens i y q = ap (λ (s : Running). s.v) q

    go : (y : Bool) → leb took total ≡ y → (when y then unload number n ts (total - took) else credit number n ts (took - total)) ≡ accepted us → Remaindered n total took ts us
    go true l q =
        let k = unload_spread number n ts (total - took) us q in
        let t = k.t in
        record {
          each = λ i. rw (k.tracks.is i) (down (t i) (k.tracks.fits i));
          net =
              omega (
                arith,
                leb-true took total l,
                k.sum,
                sum_to_add n (λ i. (state_at us i).v) t (λ i. (state_at ts i).v)
                    (λ i l. omega (arith, opens i ((state_at ts i).v - t i) (k.tracks.is i), k.tracks.fits i, room_open last (state_at ts i))),
              );
        }
    go false l q =
        let k = credit_spread number n ts (took - total) us q in
        let t = k.t in
        record {
          each = λ i. rw (k.tracks.is i) (up (t i) (k.tracks.fits i));
          net =
              omega (
                arith,
                leb-false took total l,
                k.sum,
                sum_to_add n (λ i. (state_at ts i).v) t (λ i. (state_at us i).v) (λ i l. sym (opens i ((state_at ts i).v + t i) (k.tracks.is i))),
              );
        }
