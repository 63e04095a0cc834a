-- A written number is read back, and a number that is read was written.
--     number_read      where the digits of v stand, and no digit after them, v is read
--     number_stood     where v is read, its digits stand
use Rattle.std.specs.Prelude.{◌≡◌, Bool, not, ◌&&◌, leb, eqb, length, get_or, drop}
use Rattle.std.proofs.Math.Path.{refl}
use Rattle.std.proofs.Common.{ap, sym, ◌∙◌, add-zero, arith, length-append, get_or-drop}
use Rattle.std.proofs.Math.Bool.{true, false}
use mathlib.Core.List.{List, [], ◌∷◌, ◌++◌, append_assoc, append-nil}
use Prim.Native.Nat.{ℕ, zero, suc, ◌+◌, ◌-◌, ◌*◌, ◌/◌, ◌%◌, ◌^◌, ◌<◌, ◌≤◌}
use Rattle.std.proofs.Math.Nat.{pow-suc}
use Rattle.std.proofs.Math.Dec.{ltb}
use Rattle.std.proofs.Math.ListN.{get_or-append}
use borrow.Author.Tests.{le-ltb, lt-ltb, ltb-true, ltb-false, leb-true, le-leb, eq-eqb, ne_eqb}
use Rattle.rules.specs.Words.{when◌then◌else◌}
use Rattle.rules.specs.Fields as fields
use Rattle.rules.specs.Fields.{Field, got, malformed, byte, is_digit, run, number_at, digits_in, digits}
use Rattle.laws.specs.Choices.{true_not_false, both_true, not_false, got_failed}
use Rattle.laws.specs.Lists.{drop_past, get_d_first}

-- Bytes that are digits.

pub digit_from : (b : ℕ) → is_digit b ≡ true → (48 ≤ b) × (b ≤ 57)
digit_from b e = let p = both_true (leb 48 b) (leb b 57) e in (leb-true 48 b p.0, leb-true b 57 p.1)

digit_is : (b : ℕ) → 48 ≤ b → b ≤ 57 → is_digit b ≡ true
digit_is b lo hi = rw (le-leb 48 b, le-leb b 57)

abbrev AllDigits : List ℕ → Type 0
AllDigits [] = Unit {0}
AllDigits (b ∷ t) = (is_digit b ≡ true) × AllDigits t

-- no digit stands first
abbrev pub Stops : List ℕ → Type 0
Stops l = is_digit (get_or l 0 0) ≡ false

-- what digits are worth, read on from w
abbrev worth : ℕ → List ℕ → ℕ
worth w [] = w
worth w (b ∷ t) = worth (w * 10 + (b - 48)) t

-- The digits of a number, whatever their most.

-- what holds of one digit, and of a number with its last digit if it holds of the rest, holds of all
module _ (P : ℕ → List ℕ → Type 0) (one : (v : ℕ) → v < 10 → P v ((48 + v) ∷ []))
    (more : (v : ℕ) (ds : List ℕ) → 10 ≤ v → P (v / 10) ds → P v (ds ++ ((48 + v % 10) ∷ []))) where
  digits_in_lem : (f v : ℕ) → v < 10 ^ suc f → P v (digits_in (suc f) v)
  unfolding fields.digits_in
  digits_in_lem zero v h = rw lt-ltb (one v h)
  digits_in_lem (suc f) v h = go (ltb v 10) refl (λ k. digits_in_lem f (v / 10) (let j = simp pow-suc at h in omega arith))
    where
      go : (p : Bool) → ltb v 10 ≡ p → (10 ≤ v → P (v / 10) (digits_in (suc f) (v / 10)))
          → P v (when p then (48 + v) ∷ [] else digits_in (suc f) (v / 10) ++ ((48 + v % 10) ∷ []))
      go true e k = one v (ltb-true v 10 e)
      go false e k = more v (digits_in (suc f) (v / 10)) (ltb-false v 10 e) (k (ltb-false v 10 e))

  pub digits_by : (v : ℕ) → v < 2 ^ 64 → P v (digits v)
  unfolding fields.digits
  digits_by v h = digits_in_lem 19 v (omega arith)

pub digits_one : (v : ℕ) → v < 10 → digits v ≡ (48 + v) ∷ []
unfolding fields.digits fields.digits_in
digits_one v h = simp (lt-ltb v 10 h)

-- room for one digit more changes nothing
digits_enough : (f v : ℕ) → v < 10 ^ suc f → digits_in (suc f) v ≡ digits_in (suc (suc f)) v
unfolding fields.digits_in
digits_enough zero v h = rw (lt-ltb v 10 h)
digits_enough (suc f) v h = ap (λ (l : List ℕ). when ltb v 10 then (48 + v) ∷ [] else l ++ ((48 + v % 10) ∷ [])) (digits_enough f (v / 10) (let k = simp pow-suc at h in omega arith))

pub digits_more : (v : ℕ) → 10 ≤ v → v < 2 ^ 64 → digits v ≡ digits (v / 10) ++ ((48 + v % 10) ∷ [])
unfolding fields.digits fields.digits_in
digits_more v h b = simp (le-ltb v 10 h) (ap (λ (l : List ℕ). l ++ ((48 + v % 10) ∷ [])) (digits_enough 18 (v / 10) (omega arith)))

-- of the digits ds of v
record Writes (v : ℕ) (ds : List ℕ) : Type 0 where
  all : AllDigits ds
  worth_is : worth 0 ds ≡ v
  some : 1 ≤ length ds
  first : 1 ≤ v → get_or ds 0 0 ≡ 48 → ⊥

writes_one : (v : ℕ) → v < 10 → Writes v ((48 + v) ∷ [])
writes_one v h = record { all = (digit_is (48 + v) (omega arith) (omega arith), tt); worth_is = omega arith; some = omega arith; first = λ k e. omega arith }

all_snoc : (xs : List ℕ) (b : ℕ) → AllDigits xs → is_digit b ≡ true → AllDigits (xs ++ (b ∷ []))
all_snoc [] b a d = (d, tt)
all_snoc (x ∷ xs) b a d = (a.0, all_snoc xs b a.1 d)

worth_snoc : (xs : List ℕ) (b w : ℕ) → worth w (xs ++ (b ∷ [])) ≡ worth w xs * 10 + (b - 48)
worth_snoc [] b w = refl
worth_snoc (x ∷ xs) b w = worth_snoc xs b (w * 10 + (x - 48))

writes_more : (v : ℕ) (ds : List ℕ) → 10 ≤ v → Writes (v / 10) ds → Writes v (ds ++ ((48 + v % 10) ∷ []))
writes_more v ds h w =
    let d = 48 + v % 10 in
    let s = w.some in
    record {
      all = all_snoc ds d w.all (digit_is d (omega arith) (omega arith));
      worth_is = omega (arith, worth_snoc ds d 0, w.worth_is);
      some = omega (arith, length-append ds (d ∷ []));
      first = λ k e. w.first (omega arith) (sym (get_or-append ds (d ∷ []) 0 0 (omega arith)) ∙ e);
    }

writes : (v : ℕ) → v < 2 ^ 64 → Writes v (digits v)
writes v h = digits_by Writes writes_one writes_more v h

-- A written number is read.

-- a number in front of a list, read at the place at
abbrev number_in : ℕ → List ℕ → Field ℕ
number_in at l =
    when not (is_digit (get_or l 0 0)) then malformed else
    when eqb (get_or l 0 0) 48 && is_digit (get_or l 1 0) then malformed else
    run 0 at l

number_in_lem : (s l : List ℕ) (at : ℕ) → drop at s ≡ l → number_at s at ≡ number_in at l
unfolding fields.number_at
number_in_lem s l at e = rw (sym (get_or-drop at s 1 0), get_d_first s l at 0 e, e)

run_over : (xs rest : List ℕ) (w i : ℕ) → AllDigits xs → Stops rest → run w i (xs ++ rest) ≡ got (worth w xs) (i + length xs)
unfolding fields.run
run_over [] [] w i a s = rw add-zero
run_over [] (b ∷ t) w i a s = rw (s, add-zero)
run_over (b ∷ xs) rest w i a s =
    let k : suc i + length xs ≡ i + suc (length xs) = omega arith in
    rw a.0 (run_over xs rest (w * 10 + (b - 48)) (suc i) a.1 s ∙ ap (got (worth w (b ∷ xs))) k)

digits_read : (v at : ℕ) (rest : List ℕ) → v < 2 ^ 64 → Stops rest → number_in at (digits v ++ rest) ≡ got v (at + length (digits v))
digits_read zero at rest h stop = rw (digits_one 0 (omega arith), stop) (run_over (48 ∷ []) rest 0 at (refl, tt) stop)
digits_read (suc v) at rest h stop = go (digits (suc v)) (writes (suc v) h)
  where
    go : (ds : List ℕ) → Writes (suc v) ds → number_in at (ds ++ rest) ≡ got (suc v) (at + length ds)
    go [] w = absurd (omega (arith, w.some))
    go (b ∷ ds) w =
        rw (w.all.0, ne_eqb b 48 (w.first (omega arith)))
        (run_over (b ∷ ds) rest 0 at w.all stop ∙ ap (λ (k : ℕ). got k (at + length (b ∷ ds))) w.worth_is)

pub number_read : (s : List ℕ) (at v : ℕ) (rest : List ℕ) → v < 2 ^ 64 → drop at s ≡ digits v ++ rest → Stops rest → number_at s at ≡ got v (at + length (digits v))
number_read s at v rest h e stop = number_in_lem s (digits v ++ rest) at e ∙ digits_read v at rest h stop

-- A number that is read was written.

-- a list's digits in front, and the rest
record Split (l : List ℕ) : Type 0 where
  front : List ℕ
  rest : List ℕ
  whole : l ≡ front ++ rest
  all : AllDigits front
  stop : Stops rest

split : (l : List ℕ) → Split l
split [] = record { front = []; rest = []; whole = refl; all = tt; stop = refl }
split (b ∷ t) = go (is_digit b) refl (split t)
  where
    go : (p : Bool) → is_digit b ≡ p → Split t → Split (b ∷ t)
    go true e k = record { front = b ∷ k.front; rest = k.rest; whole = ap (λ (l : List ℕ). b ∷ l) k.whole; all = (e, k.all); stop = k.stop }
    go false e k = record { front = []; rest = b ∷ t; whole = refl; all = tt; stop = e }

worth_most : (xs : List ℕ) (w : ℕ) → w ≤ worth w xs
worth_most [] w = omega arith
worth_most (b ∷ xs) w = omega (arith, worth_most xs (w * 10 + (b - 48)))

-- digits after a number that is not 0 are its last digits
digits_after : (xs : List ℕ) (w : ℕ) → 1 ≤ w → AllDigits xs → worth w xs < 2 ^ 64 → digits (worth w xs) ≡ digits w ++ xs
digits_after [] w h a k = sym (append-nil (digits w))
digits_after (b ∷ xs) w h a k =
    let d = digit_from b a.0 in
    let v = w * 10 + (b - 48) in
    let le = worth_most xs v in
    let q : v / 10 ≡ w = omega arith in
    let m : 48 + v % 10 ≡ b = omega arith in
    digits_after xs v (omega arith) a.1 k
    ∙ ap (λ (l : List ℕ). l ++ xs) (digits_more v (omega arith) (omega arith))
    ∙ rw (q, m) (append_assoc (digits w) (b ∷ []) xs)

digit_alone : (b : ℕ) → is_digit b ≡ true → digits (0 * 10 + (b - 48)) ≡ b ∷ []
digit_alone b e =
    let d = digit_from b e in
    let k : 48 + (0 * 10 + (b - 48)) ≡ b = omega arith in
    digits_one (0 * 10 + (b - 48)) (omega arith) ∙ rw k

-- digits without a leading zero are those of what they are worth
digits_worth : (b : ℕ) (t : List ℕ) → AllDigits (b ∷ t) → (b ≡ 48 → t ≡ []) → worth 0 (b ∷ t) < 2 ^ 64 → digits (worth 0 (b ∷ t)) ≡ b ∷ t
digits_worth b [] a z k = digit_alone b a.0
digits_worth b (x ∷ t) a z k =
    let d = digit_from b a.0 in
    let big : b ≡ 48 → ⊥ = λ e. let y = z e in let n : ◌≡◌ {A = ℕ} 0 1 = cc in omega arith in
    digits_after (x ∷ t) (0 * 10 + (b - 48)) (omega (arith, big)) a.1 k ∙ ap (λ (l : List ℕ). l ++ (x ∷ t)) (digit_alone b a.0)

zero_first : (b : ℕ) (xs rest : List ℕ) → AllDigits xs → (eqb b 48 && is_digit (get_or (xs ++ rest) 0 0)) ≡ false → b ≡ 48 → xs ≡ []
zero_first b [] rest a z e = refl
zero_first b (c ∷ xs) rest a z e = true_not_false (rw (eq-eqb b 48 e, a.0) at z)

-- the digits of v in front of a list that starts at the place at, and the rest at n
record Front (at : ℕ) (l : List ℕ) (v n : ℕ) : Type 0 where
  rest : List ℕ
  text : l ≡ digits v ++ rest
  next : n ≡ at + length (digits v)

digits_front : (at v n : ℕ) (l : List ℕ) → v < 2 ^ 64 → number_in at l ≡ got v n → Split l → Front at l v n
digits_front at v n l h e k =
    let p = got_failed (not (is_digit (get_or l 0 0))) _ v n e in
    let q = got_failed (eqb (get_or l 0 0) 48 && is_digit (get_or l 1 0)) _ v n p.1 in
    go k.front k.rest k.whole k.all k.stop (not_false _ p.0) q.0 q.1
  where
    go : (xs rest : List ℕ) → l ≡ xs ++ rest → AllDigits xs → Stops rest → is_digit (get_or l 0 0) ≡ true → (eqb (get_or l 0 0) 48 && is_digit (get_or l 1 0)) ≡ false
        → run 0 at l ≡ got v n → Front at l v n
    go [] rest e a stop d z r = true_not_false (sym d ∙ rw e stop)
    go (b ∷ xs) rest e a stop d z r =
        let same : got (worth 0 (b ∷ xs)) (at + length (b ∷ xs)) ≡ got v n = sym (ap (run 0 at) e ∙ run_over (b ∷ xs) rest 0 at a stop) ∙ r in
        let value : worth 0 (b ∷ xs) ≡ v = cc in
        let place : at + length (b ∷ xs) ≡ n = cc in
        let is : digits v ≡ b ∷ xs = ap digits (sym value) ∙ digits_worth b xs a (zero_first b xs rest a.1 (rw e at z)) (omega arith) in
        record { rest = rest; text = e ∙ ap (λ (l : List ℕ). l ++ rest) (sym is); next = sym place ∙ ap (λ (l : List ℕ). at + length l) (sym is) }

pub number_stood : (s : List ℕ) (at v n : ℕ) → v < 2 ^ 64 → number_at s at ≡ got v n → drop at s ≡ digits v ++ drop n s
number_stood s at v n h e =
    let f = digits_front at v n (drop at s) h (sym (number_in_lem s (drop at s) at refl) ∙ e) (split (drop at s)) in
    f.text ∙ ap (λ (l : List ℕ). digits v ++ l) (sym (drop_past s (digits v) f.rest at f.text) ∙ ap (λ (k : ℕ). drop k s) (sym f.next))

-- a number starts with a digit
pub number_first : (s : List ℕ) (at v n : ℕ) → number_at s at ≡ got v n → is_digit (byte s at) ≡ true
unfolding fields.number_at
number_first s at v n e = not_false _ (got_failed (not (is_digit (byte s at))) _ v n e).0
