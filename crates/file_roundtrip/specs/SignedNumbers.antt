-- A written number that fits 64 signed bits is read back, and a signed number that is read was written.
--     signed_read      where the text of such a number stands, and no digit after it, it is read
--     signed_stood     where z is read, it fits 64 signed bits and its text stands up to the next place
use Rattle.std.specs.Prelude.{◌≡◌, refl, Bool, true, false, not, ◌&&◌, List, [], ◌∷◌, ◌++◌, ℕ, zero, suc, ◌+◌, ◌-◌, ◌*◌, ◌^◌, ◌<◌, ◌≤◌, ltb, eqb, ℤ, pos, negsuc, length, drop}
use Rattle.std.proofs.Common.{ap, subst, ◌∙◌, arith, length-drop, ltb-true, eq-eqb, ne_eqb}
use Rattle.rules.specs.Words.{when◌then◌else◌}
use Rattle.rules.specs.Fields as fields
use Rattle.rules.specs.Fields.{got, malformed, on_field, byte, is_digit, run, number_at, digits}
use Rattle.rules.specs.Report.{signed_text}
use Rattle.rules.specs.Spreadsheet as spreadsheet
use Rattle.rules.specs.Spreadsheet.{fits64, above, below, signed_at}
use Rattle.laws.specs.Choices.{malformed_not_got, got_passed, got_failed, field_passed}
use Rattle.laws.specs.Lists.{drop_past_one, get_d_first}
use Rattle.roundtrip.specs.Numbers.{Stops, digit_from, number_read, number_stood, number_first}
use Rattle.roundtrip.specs.Fields.{byte_there}
use Rattle.file_roundtrip.specs.Standing.{text_behind}

-- 63 bits and a sign are fewer than 64 bits
fits_narrow : (n : ℕ) → ltb n 9_223_372_036_854_775_808 ≡ true → suc n < 2 ^ 64
fits_narrow n f = omega (arith, ltb-true n 9_223_372_036_854_775_808 f)

-- A written number is read.

pub signed_read : (z : ℤ) (s rest : List ℕ) (at : ℕ) → fits64 z ≡ true → drop at s ≡ signed_text z ++ rest → Stops rest
    → signed_at s at ≡ got z (at + length (signed_text z))
unfolding spreadsheet.signed_at
signed_read (pos n) s rest at f e stop =
    let r = number_read s at n rest (omega (arith, fits_narrow n f)) e stop in
    let d = digit_from (byte s at) (number_first s at n (at + length (digits n)) r) in
    rw (ne_eqb (byte s at) 45 (λ k. omega arith), r, f)
signed_read (negsuc n) s rest at f e stop =
    let w = digits (suc n) in
    let r = number_read s (at + 1) (suc n) rest (fits_narrow n f) (drop_past_one s (w ++ rest) at 45 e) stop in
    let k : at + 1 + length w ≡ at + suc (length w) = omega arith in
    rw (eq-eqb (byte s at) 45 (get_d_first s (45 ∷ w ++ rest) at 0 e), r, f) (ap (got (negsuc n)) k)

-- A number that is read was written.

-- digits are read from a place to a later one, and not past the end
run_within : (l : List ℕ) (w i v n : ℕ) → run w i l ≡ got v n → (i ≤ n) × (n ≤ i + length l)
unfolding fields.run
run_within [] w i v n e = let k : i ≡ n = cc in (omega arith, omega arith)
run_within (b ∷ t) w i v n e = go (is_digit b) e (run_within t (w * 10 + (b - 48)) (suc i) v n)
  where
    go : (p : Bool) → (when p then run (w * 10 + (b - 48)) (suc i) t else got w i) ≡ got v n
        → (run (w * 10 + (b - 48)) (suc i) t ≡ got v n → (suc i ≤ n) × (n ≤ suc i + length t)) → (i ≤ n) × (n ≤ i + suc (length t))
    go true e ih = let k = ih e in (omega arith, omega arith)
    go false e ih = let k : i ≡ n = cc in (omega arith, omega arith)

byte_within : (s : List ℕ) (at : ℕ) → 1 ≤ byte s at → at < length s
byte_within s at h = omega (arith, ap length (byte_there s at (byte s at) h (eq-eqb (byte s at) (byte s at) refl)), length-drop at s)

number_within : (s : List ℕ) (at v n : ℕ) → number_at s at ≡ got v n → (at ≤ n) × (n ≤ length s)
unfolding fields.number_at
number_within s at v n e =
    let d = digit_from (byte s at) (number_first s at v n e) in
    let p = got_failed (not (is_digit (byte s at))) _ v n e in
    let q = got_failed (eqb (byte s at) 48 && is_digit (byte s (at + 1))) _ v n p.1 in
    let r = run_within (drop at s) 0 at v n q.1 in
    (r.0, omega (arith, r.1, length-drop at s, byte_within s at (omega arith)))

pub record SignedStood (z : ℤ) (s : List ℕ) (at next : ℕ) : Type 0 where
  pub fits : fits64 z ≡ true
  pub text : drop at s ≡ signed_text z ++ drop next s
  pub behind : next ≡ at + length (signed_text z)
  pub within : next ≤ length s

above_stood : (n : ℕ) (s : List ℕ) (at next : ℕ) → fits64 (pos n) ≡ true → number_at s at ≡ got n next → SignedStood (pos n) s at next
above_stood n s at next f e =
    let t = number_stood s at n next (omega (arith, fits_narrow n f)) e in
    let w = number_within s at n next e in
    record { fits = f; text = t; behind = text_behind s (digits n) at next t w.0 w.1; within = w.1 }

below_stood : (n : ℕ) (s : List ℕ) (at next : ℕ) → fits64 (negsuc n) ≡ true → eqb (byte s at) 45 ≡ true → number_at s (at + 1) ≡ got (suc n) next
    → SignedStood (negsuc n) s at next
below_stood n s at next f m e =
    let t = byte_there s at 45 (omega arith) m ∙ ap (λ (l : List ℕ). 45 ∷ l) (number_stood s (at + 1) (suc n) next (fits_narrow n f) e) in
    let w = number_within s (at + 1) (suc n) next e in
    record { fits = f; text = t; behind = text_behind s (45 ∷ digits (suc n)) at next t (omega (arith, w.0)) w.1; within = w.1 }

pub signed_stood : (z : ℤ) (s : List ℕ) (at next : ℕ) → signed_at s at ≡ got z next → SignedStood z s at next
unfolding spreadsheet.signed_at
signed_stood z s at next e = go (eqb (byte s at) 45) refl e
  where
    -- what passed the test of its bits
    passed : (y : ℤ) (p : ℕ) → (when fits64 y then got y p else malformed) ≡ got z next → (fits64 y ≡ true → p ≡ next → SignedStood y s at next) → SignedStood z s at next
    passed y p e there =
        let q = got_passed (fits64 y) (got y p) z next e in
        let same = q.1 in
        let is : y ≡ z = cc in
        let k : p ≡ next = cc in
        subst (λ (z : ℤ). SignedStood z s at next) is (there q.0 k)

    negative : (n p : ℕ) → eqb (byte s at) 45 ≡ true → number_at s (at + 1) ≡ got n p → below n p ≡ got z next → SignedStood z s at next
    negative zero p m f e = malformed_not_got z next e
    negative (suc n) p m f e = passed (negsuc n) p e (λ fit k. below_stood n s at next fit m (f ∙ ap (got (suc n)) k))

    go : (m : Bool) → eqb (byte s at) 45 ≡ m → (when m then on_field (number_at s (at + 1)) below else on_field (number_at s at) above) ≡ got z next → SignedStood z s at next
    go true m e = let p = field_passed (number_at s (at + 1)) below z next e in negative p.mid p.place m p.first p.second
    go false m e =
        let p = field_passed (number_at s at) above z next e in
        passed (pos p.mid) p.place p.second (λ fit k. above_stood p.mid s at next fit (p.first ∙ ap (got p.mid) k))
