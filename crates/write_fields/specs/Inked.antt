-- What a writer does to a lent buffer, and laws by which writers follow one another.
-- A text is a function of the rest after it, so that one text before another is one function of the other.
use Rattle.std.specs.Prelude.{◌≡◌, List, [], ◌∷◌, ◌++◌, length, set, drop}
use Rattle.std.proofs.Math.Path.{refl}
use Rattle.std.proofs.Common.{ap, ◌∙◌, add-one, length-set, length-append}
use Prim.Native.Nat.{ℕ, zero, suc, ◌+◌, ◌-◌, ◌≤◌, ◌<◌}
use native.Mathlib.Omega.{arith}
use Rattle.std.proofs.lemmas.List.Edits.{sets, sets-eq}

abbrev pub Text : Type 0
Text = List ℕ → List ℕ

-- the bytes w fit into a buffer from a place on
pub record Room (buffer : List ℕ) (at : ℕ) (w : List ℕ) : Type 0 where
  pub fits : at + length w ≤ length buffer

-- the text stands in the buffer from one place up to the next, before whatever comes after it; all else is as it was
pub record Inked (before : List ℕ) (at : ℕ) (after : List ℕ) (next : ℕ) (text : Text) : Type 0 where
  pub kept : length after ≡ length before
  pub place : (rest : List ℕ) → next + length rest ≡ at + length (text rest)
  pub bytes : (rest : List ℕ) → sets after next rest ≡ sets before at (text rest)

-- the rest stands after a text whole
pub record Front (text : Text) : Type 0 where
  pub longer : (rest : List ℕ) → length (text rest) ≡ length (text []) + length rest

-- What was written is the text, and the place is after it.

pub inked_place : {a : List ℕ} {at : ℕ} {b : List ℕ} {p : ℕ} {f : Text} → Inked a at b p f → p ≡ at + length (f [])
inked_place e = omega (arith, e.place [])

-- written from 0 on, it is the buffer's beginning
pub inked_first : {a b : List ℕ} {p : ℕ} {f : Text} → Inked a 0 b p f → Room a 0 (f []) → b ≡ f [] ++ drop (length (f [])) a
inked_first {a} {b} {p} {f} e r =
    let z : 0 + length (f []) ≡ length (f []) = omega arith in
    e.bytes [] ∙ sets-eq (f []) a 0 r.fits ∙ ap (λ (k : ℕ). f [] ++ drop k a) z

-- Writers.

pub inked_byte : (a : List ℕ) (at b : ℕ) → Inked a at (set a at b) (at + 1) (λ rest. b ∷ rest)
inked_byte a at b = record { kept = length-set a at b; place = λ rest. omega arith; bytes = λ rest. rw add-one }

pub inked_nothing : (a : List ℕ) (at : ℕ) → Inked a at a at (λ rest. rest)
inked_nothing a at = record { kept = refl; place = λ rest. refl; bytes = λ rest. refl }

-- one text, then another
pub inked_then : {a : List ℕ} {at : ℕ} {b : List ℕ} {p : ℕ} {c : List ℕ} {q : ℕ} {f g : Text} → Inked a at b p f → Inked b p c q g → Inked a at c q (λ rest. f (g rest))
inked_then {g} x y =
    record {
      kept = y.kept ∙ x.kept;
      place = λ rest. y.place rest ∙ x.place (g rest);
      bytes = λ rest. y.bytes rest ∙ x.bytes (g rest);
    }

-- the same text, said another way
pub inked_as : {a : List ℕ} {at : ℕ} {b : List ℕ} {p : ℕ} {f g : Text} → ((rest : List ℕ) → f rest ≡ g rest) → Inked a at b p f → Inked a at b p g
inked_as {a} {at} same x =
    record {
      kept = x.kept;
      place = λ rest. x.place rest ∙ ap (λ (w : List ℕ). at + length w) (same rest);
      bytes = λ rest. x.bytes rest ∙ ap (sets a at) (same rest);
    }

-- Room.

-- what has room with more after it
pub room_first : {a : List ℕ} {at : ℕ} {f : Text} {rest : List ℕ} → Front f → Room a at (f rest) → Room a at (f [])
room_first {rest} e r = record { fits = omega (arith, e.longer rest, r.fits) }

-- what comes after a text that was written
pub room_after : {a : List ℕ} {at : ℕ} {b : List ℕ} {p : ℕ} {f : Text} {rest : List ℕ} → Inked a at b p f → Room a at (f rest) → Room b p rest
room_after {rest} e r = record { fits = omega (arith, e.place rest, e.kept, r.fits) }

-- the same bytes, said another way
pub room_as : {a : List ℕ} {at : ℕ} {v w : List ℕ} → v ≡ w → Room a at w → Room a at v
room_as same r = record { fits = omega (arith, ap length same, r.fits) }

pub front_then : {f g : Text} → Front f → Front g → Front (λ rest. f (g rest))
front_then {f} {g} x y = record { longer = λ rest. omega (arith, x.longer (g rest), x.longer (g []), y.longer rest) }

pub front_byte : (b : ℕ) → Front (λ rest. b ∷ rest)
front_byte b = record { longer = λ rest. omega arith }

pub front_two : (a b : ℕ) → Front (λ rest. a ∷ b ∷ rest)
front_two a b = record { longer = λ rest. omega arith }

pub front_list : (w : List ℕ) → Front (λ rest. w ++ rest)
front_list w = record { longer = λ rest. omega (arith, length-append w rest, length-append w []) }

-- Texts one after another.

-- f 0, then .., then f (n - 1)
unfoldable pub up_to : (ℕ → Text) → ℕ → Text
up_to f zero rest = rest
up_to f (suc n) rest = up_to f n (f n rest)

up_to_more : (f : ℕ → Text) (n : ℕ) (rest : List ℕ) → up_to f n (f n rest) ≡ up_to f (n + 1) rest
unfolding up_to
up_to_more f n rest = rw add-one

-- texts that are the same one by one
pub up_to_same : (f g : ℕ → Text) (n : ℕ) → ((i : ℕ) → i < n → (rest : List ℕ) → f i rest ≡ g i rest) → (rest : List ℕ) → up_to f n rest ≡ up_to g n rest
unfolding up_to
up_to_same f g zero h rest = refl
up_to_same f g (suc n) h rest = ap (up_to f n) (h n (omega arith) rest) ∙ up_to_same f g n (λ i l. h i (omega arith)) (g n rest)

-- the first by itself
pub up_to_first : (f : ℕ → Text) (n : ℕ) (rest : List ℕ) → up_to f (suc n) rest ≡ f 0 (up_to (λ i. f (suc i)) n rest)
unfolding up_to
up_to_first f zero rest = refl
up_to_first f (suc n) rest = up_to_first f n (f (suc n) rest)

module _ (f : ℕ → Text) where
  pub length_none : length (up_to f 0 []) ≡ 0
  unfolding up_to
  length_none = refl

  pub inked_none : (a : List ℕ) (at : ℕ) → Inked a at a at (up_to f 0)
  unfolding up_to
  inked_none a at = inked_nothing a at

  pub inked_more : {a : List ℕ} {at : ℕ} {b : List ℕ} {p : ℕ} {c : List ℕ} {q : ℕ} (i : ℕ) → Inked a at b p (up_to f i) → Inked b p c q (f i) → Inked a at c q (up_to f (i + 1))
  inked_more i x y = inked_as (up_to_more f i) (inked_then x y)

  -- all n, said another way
  pub inked_all : {a : List ℕ} {at : ℕ} {b : List ℕ} {p : ℕ} {g : Text} (i n : ℕ) → ((rest : List ℕ) → up_to f n rest ≡ g rest) → i ≡ n → Inked a at b p (up_to f i) → Inked a at b p g
  inked_all i n same e = inked_as (λ rest. ap (λ (k : ℕ). up_to f k rest) e ∙ same rest)

  module _ (each : (i : ℕ) → Front (f i)) where
    pub front_up_to : (n : ℕ) → Front (up_to f n)
    unfolding up_to
    front_up_to zero = record { longer = λ rest. omega arith }
    front_up_to (suc n) = front_then (front_up_to n) (each n)

    pub length_more : (i : ℕ) → length (up_to f i []) + length (f i []) ≡ length (up_to f (i + 1) [])
    length_more i = omega (arith, (front_up_to i).longer (f i []), ap length (up_to_more f i []))

    length_less : (i k : ℕ) → length (up_to f i []) ≤ length (up_to f (k + i) [])
    unfolding up_to
    length_less i zero = let z : 0 + i ≡ i = omega arith in rw z (omega arith)
    length_less i (suc k) = let z : suc k + i ≡ suc (k + i) = omega arith in rw z (omega (arith, length_less i k, (front_up_to (k + i)).longer (f (k + i) [])))

    -- one of n, and those before it
    pub length_within : (i n : ℕ) → i < n → length (up_to f i []) + length (f i []) ≤ length (up_to f n [])
    length_within i n l =
        let z : (n - (i + 1)) + (i + 1) ≡ n = omega arith in
        let less : length (up_to f (i + 1) []) ≤ length (up_to f n []) = rw z at (length_less (i + 1) (n - (i + 1))) in
        omega (arith, less, length_more i)

    -- one of n that has not been written has room where all n have
    pub room_next : {a : List ℕ} {at : ℕ} {b : List ℕ} {p : ℕ} (i n : ℕ) → i < n → Inked a at b p (up_to f i) → Room a at (up_to f n []) → Room b p (f i [])
    room_next i n lt e r = record { fits = omega (arith, length_within i n lt, (front_up_to i).longer (f i []), e.place (f i []), e.kept, r.fits) }
