-- The texts of bytes, numbers and labels before the rest, and how each is made piece by piece.
use Rattle.std.specs.Prelude.{◌≡◌, refl, Bool, true, false, List, [], ◌∷◌, ◌++◌, ℕ, zero, suc, ◌+◌, ◌/◌, ◌%◌, ◌^◌, ◌≤◌, ◌<◌, length, get_or, take, drop}
use Rattle.std.proofs.Common.{ap, sym, ◌∙◌, append_assoc, append-nil, add-one, arith, take_all, drop_of_length-le, drop-cons}
use Rattle.rules.specs.Words.{when◌then◌else◌}
use Rattle.rules.specs.Fields as fields
use Rattle.rules.specs.Fields.{is_escaped, escape, digits, Chars, basis_text}
use Rattle.rules.specs.declared.Basis.{Basis}
use Rattle.roundtrip.specs.Numbers.{digits_one, digits_more}
use Rattle.write_fields.specs.Inked as inked
use Rattle.write_fields.specs.Inked.{Text, Room, Inked, Front, inked_nothing, inked_then, inked_as, room_as, room_after, front_byte, front_list, front_then, up_to, up_to_first}

-- Numbers.

abbrev pub number_text : ℕ → Text
number_text v rest = digits v ++ rest

-- a number below 100 as two digits
abbrev pub two_digits : ℕ → Text
two_digits v rest = (48 + v / 10) ∷ (48 + v % 10) ∷ rest

-- "Fields are separated by one space."
abbrev pub spaced_text : ℕ → Text
spaced_text v rest = 32 ∷ number_text v rest

-- the number at an index of a list, after its space
abbrev pub spaced_at : List ℕ → ℕ → Text
spaced_at vs i = spaced_text (get_or vs i 0)

-- a list's numbers, each after its space
abbrev pub numbers_text : List ℕ → Text
numbers_text vs = up_to (spaced_at vs) (length vs)

-- Labels.

abbrev pub character_text : ℕ → Text
character_text c rest = escape (c ∷ []) ++ rest

abbrev pub character_at : List ℕ → ℕ → Text
character_at bs i = character_text (get_or bs i 0)

abbrev pub escape_text : Chars → Text
escape_text cs rest = escape cs ++ rest

-- "between double quotes"
abbrev pub quoted_text : Chars → Text
quoted_text cs rest = 34 ∷ escape_text cs (34 ∷ rest)

-- Bytes.

-- the four and the eight of a part from its byte i on
abbrev pub four_at : List ℕ → ℕ → Text
four_at w i rest = get_or w i 0 ∷ get_or w (i + 1) 0 ∷ get_or w (i + 2) 0 ∷ get_or w (i + 3) 0 ∷ rest

abbrev pub eight_at : List ℕ → ℕ → Text
eight_at w i rest =
    get_or w i 0 ∷ get_or w (i + 1) 0 ∷ get_or w (i + 2) 0 ∷ get_or w (i + 3) 0 ∷ get_or w (i + 4) 0 ∷ get_or w (i + 5) 0 ∷ get_or w (i + 6) 0 ∷ get_or w (i + 7) 0 ∷ rest

-- all of a part from its byte i on
abbrev pub from_text : List ℕ → ℕ → Text
from_text w i rest = drop i w ++ rest

-- The rest stands after each.

pub front_four : (w : List ℕ) (i : ℕ) → Front (four_at w i)
front_four w i = record { longer = λ rest. omega arith }

pub front_eight : (w : List ℕ) (i : ℕ) → Front (eight_at w i)
front_eight w i = record { longer = λ rest. omega arith }

pub front_spaced : (v : ℕ) → Front (spaced_text v)
front_spaced v = front_list (32 ∷ digits v)

pub front_quoted : (cs : Chars) → Front (quoted_text cs)
front_quoted cs = front_then (front_list (34 ∷ escape cs)) (front_byte 34)

-- How they are made.

pub number_one : (v : ℕ) → v < 10 → (rest : List ℕ) → (48 + v) ∷ rest ≡ number_text v rest
number_one v h rest = ap (λ (w : List ℕ). w ++ rest) (sym (digits_one v h))

pub number_more : (v : ℕ) → 10 ≤ v → v < 2 ^ 64 → (rest : List ℕ) → number_text (v / 10) ((48 + v % 10) ∷ rest) ≡ number_text v rest
number_more v h b rest = sym (append_assoc (digits (v / 10)) ((48 + v % 10) ∷ []) rest) ∙ ap (λ (w : List ℕ). w ++ rest) (sym (digits_more v h b))

pub number_two : (v : ℕ) → 10 ≤ v → v < 100 → (rest : List ℕ) → two_digits v rest ≡ number_text v rest
number_two v h l rest = number_one (v / 10) (omega arith) ((48 + v % 10) ∷ rest) ∙ number_more v h (omega arith) rest

-- the last two after the others, and the last four
pub number_more_two : (v : ℕ) → 100 ≤ v → v < 2 ^ 64 → (rest : List ℕ) → number_text (v / 100) (two_digits (v % 100) rest) ≡ number_text v rest
number_more_two v h b rest =
    let q : v / 100 ≡ v / 10 / 10 = omega arith in
    let t : v % 100 / 10 ≡ v / 10 % 10 = omega arith in
    let o : v % 100 % 10 ≡ v % 10 = omega arith in
    rw (q, t, o) (number_more (v / 10) (omega arith) (omega arith) ((48 + v % 10) ∷ rest) ∙ number_more v (omega arith) b rest)

pub number_more_four : (v : ℕ) → 10000 ≤ v → v < 2 ^ 64 → (rest : List ℕ) → number_text (v / 10000) (two_digits (v % 10000 / 100) (two_digits (v % 10000 % 100) rest)) ≡ number_text v rest
number_more_four v h b rest =
    let q : v / 10000 ≡ v / 100 / 100 = omega arith in
    let t : v % 10000 / 100 ≡ v / 100 % 100 = omega arith in
    let o : v % 10000 % 100 ≡ v % 100 = omega arith in
    rw (q, t, o) (number_more_two (v / 100) (omega arith) (omega arith) (two_digits (v % 100) rest) ∙ number_more_two v (omega arith) b rest)

pub number_three : (v : ℕ) → 100 ≤ v → v < 1000 → (rest : List ℕ) → (48 + v / 100) ∷ two_digits (v % 100) rest ≡ number_text v rest
number_three v h l rest = number_one (v / 100) (omega arith) (two_digits (v % 100) rest) ∙ number_more_two v h (omega arith) rest

pub number_four : (v : ℕ) → 1000 ≤ v → v < 10000 → (rest : List ℕ) → two_digits (v / 100) (two_digits (v % 100) rest) ≡ number_text v rest
number_four v h l rest = number_two (v / 100) (omega arith) (omega arith) (two_digits (v % 100) rest) ∙ number_more_two v (omega arith) (omega arith) rest

pub basis_same : {x y : Basis} → x ≡ y → (rest : List ℕ) → basis_text y ++ rest ≡ basis_text x ++ rest
basis_same e rest = ap (λ (b : Basis). basis_text b ++ rest) (sym e)

pub character_escaped : (c : ℕ) → is_escaped c ≡ true → (rest : List ℕ) → 92 ∷ c ∷ rest ≡ character_text c rest
unfolding fields.escape
character_escaped c e rest = rw e

pub character_plain : (c : ℕ) → is_escaped c ≡ false → (rest : List ℕ) → c ∷ rest ≡ character_text c rest
unfolding fields.escape
character_plain c e rest = rw e

escape_first : (c : ℕ) (cs : Chars) (rest : List ℕ) → character_text c (escape_text cs rest) ≡ escape_text (c ∷ cs) rest
unfolding fields.escape
escape_first c cs rest = go (is_escaped c)
  where
    go : (p : Bool) → (when p then 92 ∷ c ∷ [] else c ∷ []) ++ (escape cs ++ rest) ≡ (when p then 92 ∷ c ∷ escape cs else c ∷ escape cs) ++ rest
    go true = refl
    go false = refl

-- the first n bytes, each in its turn
pub escape_all : (n : ℕ) (bs : List ℕ) (rest : List ℕ) → up_to (character_at bs) (length (take n bs)) rest ≡ escape_text (take n bs) rest
unfolding fields.escape inked.up_to
escape_all zero bs rest = refl
escape_all (suc n) [] rest = refl
escape_all (suc n) (b ∷ bs) rest =
    up_to_first (character_at (b ∷ bs)) (length (take n bs)) rest ∙ ap (character_text b) (escape_all n bs rest) ∙ escape_first b (take n bs) rest

-- all of them
pub escape_whole : {bs cs : Chars} → bs ≡ cs → (rest : List ℕ) → up_to (character_at bs) (length bs) rest ≡ escape_text cs rest
escape_whole {bs} e rest =
    let same : take (length bs) bs ≡ bs = take_all (length bs) bs (omega arith) in
    let each : up_to (character_at bs) (length bs) rest ≡ escape_text bs rest = rw same at (escape_all (length bs) bs rest) in
    each ∙ ap (λ (w : Chars). escape_text w rest) e

-- A part's bytes one after another.

-- one byte and what comes after it
from_next : (w rest : List ℕ) {t : List ℕ} (i j : ℕ) → j ≡ i + 1 → i < length w → t ≡ from_text w j rest → get_or w i 0 ∷ t ≡ from_text w i rest
from_next w rest i j e h k =
    ap (λ (l : List ℕ). get_or w i 0 ∷ l) (k ∙ ap (λ (n : ℕ). from_text w n rest) (e ∙ add-one i)) ∙ sym (ap (λ (l : List ℕ). l ++ rest) (drop-cons w i 0 h))

module _ (w : List ℕ) (i : ℕ) where
  pub from_one : i < length w → length w < i + 2 → (rest : List ℕ) → get_or w i 0 ∷ rest ≡ from_text w i rest
  from_one h l rest =
      let past : length w ≤ i + 1 = omega arith in
      from_next w rest i (i + 1) refl h (sym (ap (λ (l : List ℕ). l ++ rest) (drop_of_length-le w past)))

  pub from_none : length w ≤ i → (rest : List ℕ) → rest ≡ from_text w i rest
  from_none h rest = sym (ap (λ (l : List ℕ). l ++ rest) (drop_of_length-le w h))

  pub from_two : i + 2 ≤ length w → (rest : List ℕ) → get_or w i 0 ∷ get_or w (i + 1) 0 ∷ from_text w (i + 2) rest ≡ from_text w i rest
  from_two h rest = from_next w rest i (i + 1) refl (omega arith) (from_next w rest (i + 1) (i + 2) (omega arith) (omega arith) refl)

  pub from_four : i + 4 ≤ length w → (rest : List ℕ) → four_at w i (from_text w (i + 4) rest) ≡ from_text w i rest
  from_four h rest =
      from_next w rest i (i + 1) refl (omega arith)
      (from_next w rest (i + 1) (i + 2) (omega arith) (omega arith)
      (from_next w rest (i + 2) (i + 3) (omega arith) (omega arith) (from_next w rest (i + 3) (i + 4) (omega arith) (omega arith) refl)))

pub from_eight : (w : List ℕ) (i : ℕ) → i + 8 ≤ length w → (rest : List ℕ) → eight_at w i (from_text w (i + 8) rest) ≡ from_text w i rest
from_eight w i h rest =
    from_next w rest i (i + 1) refl (omega arith)
    (from_next w rest (i + 1) (i + 2) (omega arith) (omega arith)
    (from_next w rest (i + 2) (i + 3) (omega arith) (omega arith)
    (from_next w rest (i + 3) (i + 4) (omega arith) (omega arith)
    (from_next w rest (i + 4) (i + 5) (omega arith) (omega arith)
    (from_next w rest (i + 5) (i + 6) (omega arith) (omega arith)
    (from_next w rest (i + 6) (i + 7) (omega arith) (omega arith) (from_next w rest (i + 7) (i + 8) (omega arith) (omega arith) refl)))))))

-- a part of which its first i bytes stand
pub record Copied (before : List ℕ) (at : ℕ) (after : List ℕ) (next : ℕ) (w : List ℕ) (i : ℕ) : Type 0 where
  pub text : Text
  pub inked : Inked before at after next text
  pub whole : (rest : List ℕ) → text (from_text w i rest) ≡ w ++ rest

pub copied_none : (a : List ℕ) (at : ℕ) (w : List ℕ) → Copied a at a at w 0
copied_none a at w = record { text = λ rest. rest; inked = inked_nothing a at; whole = λ rest. refl }

module _ {a : List ℕ} {at : ℕ} {b : List ℕ} {p : ℕ} {w : List ℕ} {i : ℕ} (x : Copied a at b p w i) where
  pub copied_more : {c : List ℕ} {q : ℕ} {f : Text} (j : ℕ) → Inked b p c q f → ((rest : List ℕ) → f (from_text w j rest) ≡ from_text w i rest) → Copied a at c q w j
  copied_more {f} j y same = record { text = λ rest. x.text (f rest); inked = inked_then x.inked y; whole = λ rest. ap x.text (same rest) ∙ x.whole rest }

  pub copied_all : {c : List ℕ} {q : ℕ} → Inked b p c q (from_text w i) → Inked a at c q (λ rest. w ++ rest)
  copied_all y = inked_as x.whole (inked_then x.inked y)

  pub copied_room : Room a at w → Room b p (from_text w i [])
  copied_room r = room_after x.inked (room_as (x.whole [] ∙ append-nil w) r)
