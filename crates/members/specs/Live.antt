-- The amounts of a row that are gone through: those whose size is not 0, in the order of their places.
use Rattle.std.specs.Prelude.{Bool, true, false, List, [], ◌∷◌, ◌++◌, map, ◌≡◌, eqb, length, get_or}
use Rattle.std.proofs.Math.Path.{refl}
use Rattle.std.proofs.Common.{sym, ap, ◌∙◌, add-one, eqb-true, length-append}
use Rattle.std.proofs.Math.ListN.{get_or-map}
use Rattle.std.proofs.lemmas.List.{get_or_append_left, get_or_push}
use Prim.Native.Nat.{ℕ, zero, suc, ◌+◌, ◌*◌, ◌/◌, ◌%◌, ◌≤◌, ◌<◌}
use Rattle.std.proofs.Math.Decide.{dec_lt}
use native.Mathlib.Omega.{arith}
use Rattle.laws.specs.Sums.{below_suc}
use Rattle.merit.specs.LevelNeverBelowB.{state_at}
use Rattle.moves.specs.MovesKept.{before, after}
use Rattle.moves.specs.ToldIsTaken.{told, amount_of, item_at, told_none}
use Rattle.moves.specs.declared.Taken.{Taken}
use Rattle.members.specs.declared.live.Placed.{Placed}
use Rattle.rules.specs.Group.{Item, Amount}
use Rattle.rules.specs.Hour.{items, pair_width}
use Rattle.rules.specs.Words.{when◌then◌else◌}
use Rattle.rules.specs.declared.Running.{Running}

-- a row's places: a pair's cells, of each of 32 sources
abbrev pub row_width : ℕ
row_width = 32 * pair_width

abbrev pub nothing : Taken
nothing = record { size = 0; minus = false }

abbrev pub nowhere : Placed
nowhere = record { place = 0; amount = nothing }

-- where the i-th of them stands
abbrev pub place_at : List Placed → ℕ → ℕ
place_at xs i = (get_or xs i nowhere).place

-- and its amount
abbrev pub placed_at : List Placed → ℕ → Amount
placed_at xs i = amount_of (get_or xs i nowhere).amount

-- how far the first k of them reach: one past the last
unfoldable pub reached : List Placed → ℕ → ℕ
reached xs zero = 0
reached xs (suc k) = place_at xs k + 1

-- the amount of place q after those before it, if it is not 0
abbrev pub pushed : List Placed → ℕ → Taken → List Placed
pushed xs q a = when eqb a.size 0 then xs else xs ++ record { place = q; amount = a } ∷ []

-- the amount at place q of a group's row, from a place of the table on, by the states in the end
abbrev pub amount_at : List Running → List ℕ → ℕ → ℕ → Amount
amount_at es kept from q = told (state_at es (q / pair_width)) (get_or kept (from + q / pair_width) 0) (item_at (q % pair_width))

-- the places below q but those of xs, which rise, have size 0; xs has the amounts of the others
pub record Listed (a : ℕ → Amount) (q : ℕ) (xs : List Placed) : Type 0 where
  pub place : (i : ℕ) → i < length xs → place_at xs i < q
  pub rises : (i : ℕ) → i < length xs → reached xs i ≤ place_at xs i
  pub between : (i p : ℕ) → i < length xs → reached xs i ≤ p → p < place_at xs i → (a p).size ≡ 0
  pub after : (p : ℕ) → reached xs (length xs) ≤ p → p < q → (a p).size ≡ 0
  pub amount : (i : ℕ) → i < length xs → placed_at xs i ≡ a (place_at xs i)

-- an item's amount is what the source's entry tells
pub amount_told : (es : List Running) (kept : List ℕ) (from i k : ℕ) → k < pair_width → amount_at es kept from (i * pair_width + k) ≡ told (state_at es i) (get_or kept (from + i) 0) (item_at k)
amount_told es kept from i k l =
    let e : (i * pair_width + k) / pair_width ≡ i = omega arith in
    let f : (i * pair_width + k) % pair_width ≡ k = omega arith in
    rw (e, f)

-- of a source that stands as before nothing is taken
pub source_none : (es : List Running) (kept : List ℕ) (from i : ℕ) → before (get_or kept (from + i) 0) ≡ after (get_or kept (from + i) 0) → (p : ℕ) → i * pair_width ≤ p → p < (i + 1) * pair_width
    → (amount_at es kept from p).size ≡ 0
source_none es kept from i h p l n = let e : p / pair_width ≡ i = omega arith in rw e (told_none (state_at es i) (get_or kept (from + i) 0) h (item_at (p % pair_width)))

pub reached_more : (xs : List Placed) (k : ℕ) → reached xs (k + 1) ≡ place_at xs k + 1
unfolding reached
reached_more xs k = rw (add-one k)

module _ (a : ℕ → Amount) where
  pub reached_most : (q : ℕ) (xs : List Placed) → Listed a q xs → (k : ℕ) → k ≤ length xs → reached xs k ≤ q
  unfolding reached
  reached_most q xs s zero l = omega arith
  reached_most q xs s (suc k) l = omega (arith, s.place k (omega arith))

  pub listed_none : Listed a 0 []
  listed_none = record {
    place = λ i l. absurd (omega arith);
    rises = λ i l. absurd (omega arith);
    between = λ i p l m o. absurd (omega arith);
    after = λ p l m. absurd (omega arith);
    amount = λ i l. absurd (omega arith);
  }

  -- places of size 0 passed by
  pub listed_idle : (q r : ℕ) (xs : List Placed) → q ≤ r → ((p : ℕ) → q ≤ p → p < r → (a p).size ≡ 0) → Listed a q xs → Listed a r xs
  listed_idle q r xs l none s = record {
    place = λ i m. omega (arith, s.place i m);
    rises = s.rises;
    between = s.between;
    after = λ p x y. elim (dec_lt p q) [ yes z ↦ s.after p x z | no z ↦ none p (omega arith) y ];
    amount = s.amount;
  }

  -- a place of size 0 is not counted
  pub listed_skip : (q : ℕ) (xs : List Placed) → Listed a q xs → (a q).size ≡ 0 → Listed a (q + 1) xs
  listed_skip q xs s e = listed_idle q (q + 1) xs (omega arith) (λ p l m. let here : p ≡ q = omega arith in omega (arith, ap (λ (p : ℕ). (a p).size) here, e)) s

  -- one more
  module _ (q : ℕ) (xs : List Placed) (s : Listed a q xs) (x : Taken) (e : amount_of x ≡ a q) where
    abbrev ys : List Placed
    ys = xs ++ record { place = q; amount = x } ∷ []

    kept : (i : ℕ) → i < length xs → get_or ys i nowhere ≡ get_or xs i nowhere
    kept i l = get_or_append_left xs (record { place = q; amount = x } ∷ []) nowhere i l

    here : get_or ys (length xs) nowhere ≡ record { place = q; amount = x }
    here = get_or_push xs (record { place = q; amount = x }) nowhere (length xs) refl

    kept_place : (i : ℕ) → i < length xs → place_at ys i ≡ place_at xs i
    kept_place i l = ap (λ (p : Placed). p.place) (kept i l)

    here_place : place_at ys (length xs) ≡ q
    here_place = ap (λ (p : Placed). p.place) here

    long : length ys ≡ length xs + 1
    long = length-append xs (record { place = q; amount = x } ∷ [])

    reached_kept : (i : ℕ) → i ≤ length xs → reached ys i ≡ reached xs i
    unfolding reached
    reached_kept zero l = refl
    reached_kept (suc i) l = ap (λ (n : ℕ). n + 1) (kept_place i (omega arith))

    pub listed_more : Listed a (q + 1) (xs ++ record { place = q; amount = x } ∷ [])
    listed_more = record {
      place = λ i l. each (λ i. place_at ys i < q + 1) (λ i m. omega (arith, kept_place i m, s.place i m)) (omega (arith, here_place)) i l;
      rises = λ i l. each (λ i. reached ys i ≤ place_at ys i)
          (λ i m. omega (arith, kept_place i m, reached_kept i (omega arith), s.rises i m))
          (omega (arith, here_place, reached_kept (length xs) (omega arith), reached_most q xs s (length xs) (omega arith))) i l;
      between = λ i p l. each (λ i. reached ys i ≤ p → p < place_at ys i → (a p).size ≡ 0)
          (λ i m r o. s.between i p m (omega (arith, reached_kept i (omega arith))) (omega (arith, kept_place i m)))
          (λ r o. s.after p (omega (arith, reached_kept (length xs) (omega arith))) (omega (arith, here_place))) i l;
      after = λ p l m. absurd (omega (arith, long, ap (reached ys) long, reached_more ys (length xs), here_place));
      amount = λ i l. each (λ i. placed_at ys i ≡ a (place_at ys i))
          (λ i m. ap (λ (p : Placed). amount_of p.amount) (kept i m) ∙ s.amount i m ∙ ap a (sym (kept_place i m)))
          (ap (λ (p : Placed). amount_of p.amount) here ∙ e ∙ ap a (sym here_place)) i l;
    }
      where
        each : (P : ℕ → Type 0) → ((i : ℕ) → i < length xs → P i) → P (length xs) → (i : ℕ) → i < length ys → P i
        each P f g i l = below_suc P (length xs) f g i (omega (arith, long))

  pub listed_pushed : (q : ℕ) (xs : List Placed) → Listed a q xs → (x : Taken) → amount_of x ≡ a q → Listed a (q + 1) (pushed xs q x)
  listed_pushed q xs s x e = go (eqb x.size 0) refl
    where
      go : (b : Bool) → eqb x.size 0 ≡ b → Listed a (q + 1) (when b then xs else xs ++ record { place = q; amount = x } ∷ [])
      go true z = listed_skip q xs s (omega (arith, ap (λ (t : Amount). t.size) e, eqb-true x.size 0 z))
      go false z = listed_more q xs s x e

  pub listed_all : (width q : ℕ) (xs : List Placed) → q ≤ width → width ≤ q → Listed a q xs → Listed a width xs
  listed_all width q xs l m s = let e : q ≡ width = omega arith in rw e at s

-- The items of one source.

-- its amounts are those of the places from q on
abbrev pub Items : (ℕ → Amount) → ℕ → List Taken → Type 0
Items a q ts = (k : ℕ) → k < pair_width → amount_of (get_or ts k nothing) ≡ a (q + k)

-- a number of each item in a list, read at an item's place
pub item_read : {A : Type 0} (f : Item → A) (d : A) (k : ℕ) → k < pair_width → get_or (map f items) k d ≡ f (item_at k)
item_read f d zero l = refl
item_read f d (suc zero) l = refl
item_read f d (suc (suc zero)) l = refl
item_read f d (suc (suc (suc zero))) l = refl
item_read f d (suc (suc (suc (suc k)))) l = absurd (omega arith)

-- what source i's entry tells
pub items_told : (es : List Running) (kept : List ℕ) (from i : ℕ) (ts : List Taken) → map amount_of ts ≡ map (told (state_at es i) (get_or kept (from + i) 0)) items → Items (amount_at es kept from) (i * pair_width) ts
items_told es kept from i ts e k l =
    sym (get_or-map amount_of ts k nothing) ∙ ap (λ (xs : List Amount). get_or xs k (amount_of nothing)) e ∙ item_read (told (state_at es i) (get_or kept (from + i) 0)) (amount_of nothing) k l ∙ sym (amount_told es kept from i k l)
