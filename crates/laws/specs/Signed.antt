-- Laws of signed amounts and their sums. Nothing decides equations of signed numbers: each law here turns one of plain numbers into a signed one.
use Rattle.std.specs.Prelude.{Bool, true, false, ◌≡◌, refl, ℕ, zero, suc, ◌+◌, ◌-◌, ◌≤◌, ◌<◌, ℤ, pos, neg_ℤ, ◌+ℤ◌}
use Rattle.std.proofs.Common.{sym, ap, ◌∙◌, arith, lt-ltb, le-ltb}
use Rattle.std.proofs.Math.Decide.{dec_lt}
use Rattle.std.proofs.Math.IntN.{+ℤ_assoc, +ℤ_comm, pos-+ℤ-pos, neg_ℤ-+ℤ, +ℤ-neg_ℤ_cancel}
use Rattle.rules.specs.Group.{Amount, less, signed}
use Rattle.rules.specs.Words.{sum_to}

-- an amount as a signed number
abbrev pub value : Amount → ℤ
value a = signed a.minus a.size

pub signed_add : (s : Bool) (x y : ℕ) → signed s x +ℤ signed s y ≡ signed s (x + y)
signed_add true x y = sym (neg_ℤ-+ℤ (pos x) (pos y)) ∙ ap neg_ℤ (pos-+ℤ-pos x y)
signed_add false x y = pos-+ℤ-pos x y

pub signed_zero : (s : Bool) → signed s 0 ≡ pos 0
signed_zero true = refl
signed_zero false = refl

-- pos x - pos y where y is no more
pub pos_less : (x y : ℕ) → y ≤ x → pos x +ℤ neg_ℤ (pos y) ≡ pos (x - y)
pos_less x y h =
    let e : x ≡ (x - y) + y = omega arith in
    ap (λ (a : ℕ). pos a +ℤ neg_ℤ (pos y)) e ∙ ap (λ (a : ℤ). a +ℤ neg_ℤ (pos y)) (sym (pos-+ℤ-pos (x - y) y)) ∙ +ℤ-neg_ℤ_cancel (pos (x - y)) (pos y)

-- what is taken, p directly and from x to y, and what is left, q, is what was there, r
pub taken_left : (p x y q r : ℕ) → p + x + q ≡ r + y → (pos p +ℤ value (less x y)) +ℤ pos q ≡ pos r
taken_left p x y q r e = elim (dec_lt x y) [
  | yes l ↦ (
      let z : (x - y) + (y - x) ≡ y - x = omega arith in
      rw (lt-ltb x y l, z)
      (+ℤ_assoc (pos p) (neg_ℤ (pos (y - x))) (pos q) ∙ ap (λ (k : ℤ). pos p +ℤ k) (+ℤ_comm (neg_ℤ (pos (y - x))) (pos q)) ∙
      sym (+ℤ_assoc (pos p) (pos q) (neg_ℤ (pos (y - x)))) ∙ ap (λ (k : ℤ). k +ℤ neg_ℤ (pos (y - x))) (pos-+ℤ-pos p q) ∙
      pos_less (p + q) (y - x) (omega arith) ∙ ap pos (omega arith)))
  | no l ↦ (
      let z : (x - y) + (y - x) ≡ x - y = omega arith in
      rw (le-ltb x y (omega arith), z)
      (ap (λ (k : ℤ). k +ℤ pos q) (pos-+ℤ-pos p (x - y)) ∙ pos-+ℤ-pos (p + (x - y)) q ∙ ap pos (omega arith)))
]

-- what was taken, from what was left and what was there
pub left_taken : (a : ℤ) (x y t : ℕ) → a +ℤ pos x ≡ pos y → x + t ≡ y → a ≡ pos t
left_taken a x y t h e =
    sym (+ℤ-neg_ℤ_cancel a (pos x)) ∙ ap (λ (k : ℤ). k +ℤ neg_ℤ (pos x)) h ∙ pos_less y x (omega arith) ∙ ap pos (omega arith)

-- f 0 + .. + f (n - 1)
unfoldable pub sumℤ : (ℕ → ℤ) → ℕ → ℤ
sumℤ f zero = pos 0
sumℤ f (suc n) = sumℤ f n +ℤ f n

pub +ℤ_swap : (a b c d : ℤ) → (a +ℤ b) +ℤ (c +ℤ d) ≡ (a +ℤ c) +ℤ (b +ℤ d)
+ℤ_swap a b c d =
    +ℤ_assoc a b (c +ℤ d) ∙ ap (λ (k : ℤ). a +ℤ k) (sym (+ℤ_assoc b c d) ∙ ap (λ (k : ℤ). k +ℤ d) (+ℤ_comm b c) ∙ +ℤ_assoc c b d) ∙
    sym (+ℤ_assoc a c (b +ℤ d))

pub sumℤ_add : (f g : ℕ → ℤ) (n : ℕ) → sumℤ (λ j. f j +ℤ g j) n ≡ sumℤ f n +ℤ sumℤ g n
unfolding sumℤ
sumℤ_add f g zero = refl
sumℤ_add f g (suc n) = ap (λ (k : ℤ). k +ℤ (f n +ℤ g n)) (sumℤ_add f g n) ∙ +ℤ_swap (sumℤ f n) (sumℤ g n) (f n) (g n)

pub sumℤ_same : (f g : ℕ → ℤ) (n : ℕ) → ((j : ℕ) → j < n → f j ≡ g j) → sumℤ f n ≡ sumℤ g n
unfolding sumℤ
sumℤ_same f g zero h = refl
sumℤ_same f g (suc n) h = rw (sumℤ_same f g n (λ j l. h j (omega arith)), h n (omega arith))

pub sumℤ_zero : (n : ℕ) → sumℤ (λ j. pos 0) n ≡ pos 0
unfolding sumℤ
sumℤ_zero zero = refl
sumℤ_zero (suc n) = rw (sumℤ_zero n)

-- the increases of what grows from 0 add up to where it ends
pub sumℤ_increases : (s : Bool) (f : ℕ → ℕ) → f 0 ≡ 0 → ((j : ℕ) → f j ≤ f (suc j)) → (n : ℕ) → sumℤ (λ j. signed s (f (suc j) - f j)) n ≡ signed s (f n)
unfolding sumℤ
sumℤ_increases s f z m zero = rw z (sym (signed_zero s))
sumℤ_increases s f z m (suc n) =
    ap (λ (k : ℤ). k +ℤ signed s (f (suc n) - f n)) (sumℤ_increases s f z m n) ∙ signed_add s (f n) (f (suc n) - f n) ∙
    ap (signed s) (omega (arith, m n))

-- what was taken and what is left, place by place and so in sum
pub sumℤ_left : (z : ℕ → ℤ) (x y : ℕ → ℕ) → ((i : ℕ) → z i +ℤ pos (x i) ≡ pos (y i)) → (n : ℕ) → sumℤ z n +ℤ pos (sum_to x n) ≡ pos (sum_to y n)
unfolding sumℤ sum_to
sumℤ_left z x y h zero = refl
sumℤ_left z x y h (suc n) =
    ap (λ (k : ℤ). (sumℤ z n +ℤ z n) +ℤ k) (sym (pos-+ℤ-pos (sum_to x n) (x n))) ∙ +ℤ_swap (sumℤ z n) (z n) (pos (sum_to x n)) (pos (x n)) ∙
    ap (λ (k : ℤ). k +ℤ (z n +ℤ pos (x n))) (sumℤ_left z x y h n) ∙ ap (λ (k : ℤ). pos (sum_to y n) +ℤ k) (h n) ∙ pos-+ℤ-pos (sum_to y n) (y n)

-- shares with sums a and b added to two columns of cells, and the same taken from what is left
pub sumℤ_carried :
    (n : ℕ) (c₁ c₂ s₁ s₂ d₁ d₂ : ℕ → ℤ) (a b : ℤ) (after before whole : ℕ) →
    ((j : ℕ) → j < n → d₁ j ≡ c₁ j +ℤ s₁ j) → ((j : ℕ) → j < n → d₂ j ≡ c₂ j +ℤ s₂ j) → sumℤ s₁ n ≡ a → sumℤ s₂ n ≡ b →
    (a +ℤ b) +ℤ pos after ≡ pos before → sumℤ (λ j. c₁ j +ℤ c₂ j) n +ℤ pos before ≡ pos whole → sumℤ (λ j. d₁ j +ℤ d₂ j) n +ℤ pos after ≡ pos whole
sumℤ_carried n c₁ c₂ s₁ s₂ d₁ d₂ a b after before whole h₁ h₂ e₁ e₂ e w =
    let f : sumℤ (λ j. d₁ j +ℤ d₂ j) n ≡ sumℤ (λ j. (c₁ j +ℤ c₂ j) +ℤ (s₁ j +ℤ s₂ j)) n =
    sumℤ_same (λ j. d₁ j +ℤ d₂ j) (λ j. (c₁ j +ℤ c₂ j) +ℤ (s₁ j +ℤ s₂ j)) n (λ j l. rw (h₁ j l, h₂ j l) (+ℤ_swap (c₁ j) (s₁ j) (c₂ j) (s₂ j))) in
    let g : sumℤ (λ j. s₁ j +ℤ s₂ j) n ≡ a +ℤ b = sumℤ_add s₁ s₂ n ∙ rw (e₁, e₂) in
    ap (λ (k : ℤ). k +ℤ pos after) (f ∙ sumℤ_add (λ j. c₁ j +ℤ c₂ j) (λ j. s₁ j +ℤ s₂ j) n) ∙
    +ℤ_assoc (sumℤ (λ j. c₁ j +ℤ c₂ j) n) (sumℤ (λ j. s₁ j +ℤ s₂ j) n) (pos after) ∙
    ap (λ (k : ℤ). sumℤ (λ j. c₁ j +ℤ c₂ j) n +ℤ (k +ℤ pos after)) g ∙ ap (λ (k : ℤ). sumℤ (λ j. c₁ j +ℤ c₂ j) n +ℤ k) e ∙ w
