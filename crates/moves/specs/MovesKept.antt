-- Where a source stood before a group and after it, in one number; a group has a row of 32 of them.
use Rattle.std.specs.Prelude.{List, ◌≢◌, ◌⊎◌, ◌≡◌, refl, ℕ, ◌+◌, ◌*◌, ◌/◌, ◌%◌, ◌≤◌, ◌<◌, eqb, length, get_or, set}
use Rattle.std.proofs.Common.{inl, inr, sym, ap, ◌∙◌, arith, eq-eqb, ne_eqb, length-set, get_or-set_same, get_or-set_other}
use Rattle.std.proofs.Math.Decide.{ℕ_discrete, dec_lt}
use Rattle.std.proofs.Math.Seq.{set_out}
use Rattle.merit.specs.LevelNeverBelowB.{Sound, state_at}
use Rattle.merit.specs.NumbersStaySmall.{Small, level_small}
use Rattle.rules.specs.Group.{no_running, level}
use Rattle.rules.specs.Words.{when◌then◌else◌}
use Rattle.rules.specs.declared.Running.{Running}

-- D and level are below this, each
abbrev step : ℕ
step = 4096

-- and a standing below this, step times step
abbrev standings : ℕ
standings = 16_777_216

-- where a source stands: its D and its level
abbrev pub standing : Running → ℕ
standing s = s.d + level s * step

-- from where to where
abbrev pub move_of : Running → Running → ℕ
move_of s u = standing s + standing u * standings

-- D and level of a standing
abbrev pub d_of : ℕ → ℕ
d_of y = y % step

abbrev pub level_of : ℕ → ℕ
level_of y = y / step

-- the two standings of an entry
abbrev pub before : ℕ → ℕ
before x = x % standings

abbrev pub after : ℕ → ℕ
after x = x / standings

-- where a source stood when its group began: as entry x has it, or, where it has none, as it stands at w
unfoldable pub first_of : ℕ → Running → ℕ
first_of x w = when eqb x 0 then standing w else before x

-- entry x, with a move from w to y after it
abbrev pub moved_on : ℕ → Running → Running → ℕ
moved_on x w y = first_of x w + standing y * standings

-- a state whose numbers fit an entry
pub record Stands (s : Running) : Type 0 where
  pub d : s.d ≤ 4000
  pub level : level s ≤ 4000

pub stands : (s : Running) → Sound s → Small s → Stands s
stands s g l = record { d = omega (arith, g.part, l.b); level = level_small s g l }

abbrev pub LowStanding : ℕ → Type 0
LowStanding y = (d_of y ≤ 4000) × (level_of y ≤ 4000)

-- an entry that such states make
pub record Low (x : ℕ) : Type 0 where
  pub first : LowStanding (before x)
  pub last : LowStanding (after x)

abbrev pub AllLow : List ℕ → Type 0
AllLow xs = (p : ℕ) → Low (get_or xs p 0)

-- the entry of a source that stood at s when its group began and stands at w now; 0 where it has not moved
pub record Entry (s w : Running) (x : ℕ) : Type 0 where
  pub began : Stands s
  pub stands : Stands w
  pub is : ((x ≡ 0) × (standing s ≡ standing w)) ⊎ (x ≡ move_of s w)

-- of the first n sources, from a place of the table on
abbrev pub Entries : List Running → List Running → ℕ → ℕ → List ℕ → Type 0
Entries ss ws n from kept = (i : ℕ) → i < n → Entry (state_at ss i) (state_at ws i) (get_or kept (from + i) 0)

-- the table with a move from w to y at a place
abbrev pub kept_at : List ℕ → ℕ → Running → Running → List ℕ
kept_at kept at w y = set kept at (moved_on (get_or kept at 0) w y)

-- One entry.

pub d_of_lem : (s : Running) → Stands s → d_of (standing s) ≡ s.d
d_of_lem s g = omega (arith, g.d)

pub level_of_lem : (s : Running) → Stands s → level_of (standing s) ≡ level s
level_of_lem s g = omega (arith, g.d)

standing_small : (s : Running) → Stands s → standing s < standings
standing_small s g = omega (arith, g.d, g.level)

low_standing : (s : Running) → Stands s → LowStanding (standing s)
low_standing s g = (omega (arith, d_of_lem s g, g.d), omega (arith, level_of_lem s g, g.level))

pub before_of : (a b : ℕ) → a < standings → before (a + b * standings) ≡ a
before_of a b l = omega arith

pub after_of : (a b : ℕ) → a < standings → after (a + b * standings) ≡ b
after_of a b l = omega arith

pub before_move : (s u : Running) → Stands s → before (move_of s u) ≡ standing s
before_move s u g = before_of (standing s) (standing u) (standing_small s g)

pub after_move : (s u : Running) → Stands s → after (move_of s u) ≡ standing u
after_move s u g = after_of (standing s) (standing u) (standing_small s g)

module _ (x : ℕ) (w : Running) where
  pub first_none : x ≡ 0 → first_of x w ≡ standing w
  unfolding first_of
  first_none z = rw (eq-eqb x 0 z)

  pub first_some : x ≢ 0 → first_of x w ≡ before x
  unfolding first_of
  first_some z = rw (ne_eqb x 0 z)

  pub first_small : Stands w → first_of x w < standings
  first_small g = elim (ℕ_discrete x 0) [
    | yes z ↦ rw (first_none z) (standing_small w g)
    | no z ↦ rw (first_some z) (omega arith)
  ]

  first_low : Low x → Stands w → LowStanding (first_of x w)
  first_low l g = elim (ℕ_discrete x 0) [
    | yes z ↦ rw (first_none z) (low_standing w g)
    | no z ↦ rw (first_some z) l.first
  ]

  first_began : (s : Running) → Entry s w x → first_of x w ≡ standing s
  first_began s g = elim (ℕ_discrete x 0) [
    | yes z ↦ first_none z ∙ elim g.is [ inl e ↦ sym e.1 | inr e ↦ omega (arith, e, z) ]
    | no z ↦ first_some z ∙ elim g.is [ inl e ↦ absurd (z e.0) | inr e ↦ ap before e ∙ before_move s w g.began ]
  ]

pub entry_moved : (s w y : Running) (x : ℕ) → Stands y → Entry s w x → Entry s y (moved_on x w y)
entry_moved s w y x m g = record { began = g.began; stands = m; is = inr (ap (λ (z : ℕ). z + standing y * standings) (first_began x w s g)) }

pub entry_none : (s : Running) (x : ℕ) → Stands s → x ≡ 0 → Entry s s x
entry_none s x g e = record { began = g; stands = g; is = inl (e, refl) }

pub low_none : (x : ℕ) → x ≡ 0 → Low x
low_none x e = rw e (record { first = (omega arith, omega arith); last = (omega arith, omega arith) })

low_joined : (a b : ℕ) → a < standings → LowStanding a → LowStanding b → Low (a + b * standings)
low_joined a b l g h = record { first = rw (before_of a b l) g; last = rw (after_of a b l) h }

low_moved : (x : ℕ) (w y : Running) → Low x → Stands w → Stands y → Low (moved_on x w y)
low_moved x w y g a b = low_joined (first_of x w) (standing y) (first_small x w a) (first_low x w g a) (low_standing y b)

-- Tables.

pub low_set : (xs : List ℕ) (at v : ℕ) → AllLow xs → Low v → AllLow (set xs at v)
low_set xs at v g l p = elim (ℕ_discrete p at) [
  | yes e ↦ (elim (dec_lt at (length xs)) [
    | yes m ↦ (let z : get_or (set xs at v) p 0 ≡ v = rw e (get_or-set_same xs at v 0 m) in rw z l)
    | no m ↦ (let z : set xs at v ≡ xs = set_out xs at v (omega arith) in rw z (g p))
  ])
  | no e ↦ (let z : get_or (set xs at v) p 0 ≡ get_or xs p 0 = get_or-set_other xs at p v 0 e in rw z (g p))
]

pub low_kept : (xs : List ℕ) (at : ℕ) (w y : Running) → AllLow xs → Stands w → Stands y → AllLow (kept_at xs at w y)
low_kept xs at w y g a b = low_set xs at _ g (low_moved (get_or xs at 0) w y (g at) a b)

-- no row but the lead's is touched; a row has 32 places
pub record Elsewhere (lead : ℕ) (xs ys : List ℕ) : Type 0 where
  pub long : length ys ≡ length xs
  pub kept : (j i : ℕ) → j ≢ lead → i < 32 → get_or ys (j * 32 + i) 0 ≡ get_or xs (j * 32 + i) 0

pub elsewhere_none : (lead : ℕ) (xs : List ℕ) → Elsewhere lead xs xs
elsewhere_none lead xs = record { long = refl; kept = λ j i f l. refl }

pub elsewhere_set : (lead i : ℕ) (xs ys : List ℕ) (v : ℕ) → i < 32 → Elsewhere lead xs ys → Elsewhere lead xs (set ys (lead * 32 + i) v)
elsewhere_set lead i xs ys v l g = record {
  long = length-set ys _ v ∙ g.long;
  kept = λ j k f h. get_or-set_other ys _ (j * 32 + k) v 0 (λ z. f (omega arith)) ∙ g.kept j k f h;
}

-- nothing has moved yet
pub entries_none : (ss : List Running) (n from : ℕ) (kept : List ℕ) → ((i : ℕ) → Stands (state_at ss i)) → ((i : ℕ) → i < n → get_or kept (from + i) 0 ≡ 0) → Entries ss ss n from kept
entries_none ss n from kept g z i l = entry_none (state_at ss i) _ (g i) (z i l)

-- source i moved to y
pub entries_kept : (ss ws : List Running) (n i from : ℕ) (kept : List ℕ) (y : Running) → Stands y → i < n → i < length ws → from + i < length kept → Entries ss ws n from kept
    → Entries ss (set ws i y) n from (kept_at kept (from + i) (state_at ws i) y)
entries_kept ss ws n i from kept y m l a b g k o = elim (ℕ_discrete k i) [
  | yes e ↦ rw (e, get_or-set_same ws i y no_running a, get_or-set_same kept (from + i) (moved_on (get_or kept (from + i) 0) (state_at ws i) y) 0 b) (entry_moved (state_at ss i) (state_at ws i) y _ m (g i l))
  | no e ↦ rw (get_or-set_other ws i k y no_running e, get_or-set_other kept (from + i) (from + k) (moved_on (get_or kept (from + i) 0) (state_at ws i) y) 0 (λ z. e (omega arith))) (g k o)
]
