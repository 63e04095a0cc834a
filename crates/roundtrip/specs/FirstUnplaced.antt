-- A delivery gets no internal number just where no delivery has one of its own: 11 then names the first T line, and no line else.
use Rattle.std.specs.Prelude.{Bool, true, false, not, List, ◌≡◌, get_or}
use Rattle.std.proofs.Math.Option.{Option, none, some}
use Rattle.std.proofs.Math.Path.{refl}
use Prim.Native.Nat.{ℕ, zero, suc, ◌<◌, min}
use Rattle.std.proofs.Math.Decide.{dec_lt}
use native.Mathlib.Omega.{arith}
use Rattle.std.proofs.lemmas.Bool.{not-true, not-false}
use Rattle.rules.specs.Words.{when◌then◌else◌, ◌otherwise◌, is_none, find_to}
use Rattle.rules.specs.Sequences as sequences
use Rattle.rules.specs.Sequences.{no_delivery, to_place, joined, match, matches, before, after, rule_a, rule_b, rule_c, rule_d, rule_e, placed, numbered}
use Rattle.rules.specs.Record.{delivery_at}
use Rattle.rules.specs.declared.Delivery.{Delivery}
use Rattle.rules.specs.declared.Hour.{Hour}
use Rattle.rules.specs.declared.InternalSequence.{InternalSequence}
use Rattle.laws.specs.Choices.{true_not_false}
use Rattle.laws.specs.Lists.{find_to_none, find_to_passes}

otherwise_some : {A : Type 0} (x y : Option A) → is_none y ≡ false → is_none (x otherwise y) ≡ false
otherwise_some none y e = e
otherwise_some (some x) y e = refl

joined_left : (f : ℕ → ℕ → ℕ) (x y : Option InternalSequence) → is_none x ≡ false → is_none (joined f x y) ≡ false
joined_left f none y e = true_not_false e
joined_left f (some x) none e = refl
joined_left f (some x) (some y) e = refl

joined_right : (f : ℕ → ℕ → ℕ) (x : Option InternalSequence) (y : InternalSequence) → is_none (joined f x (some y)) ≡ false
joined_right f none y = refl
joined_right f (some x) y = refl

before_some : (x : Option InternalSequence) → is_none x ≡ false → is_none (before x) ≡ false
before_some none e = e
before_some (some x) e = refl

module _ (ts : List Delivery) where
  -- where all are to be placed there is no match
  no_match : (f : ℕ → ℕ → ℕ) (fits : Delivery → Bool) (n : ℕ) → ((i : ℕ) → i < n → to_place (get_or ts i no_delivery) ≡ true) → matches f fits ts n ≡ none
  unfolding sequences.matches
  no_match f fits zero h = refl
  no_match f fits (suc n) h = rw (no_match f fits n (λ i l. h i (omega arith)), h n (omega arith))

  none_placed : (n : ℕ) (t : Delivery) → ((i : ℕ) → i < n → to_place (get_or ts i no_delivery) ≡ true) → placed ts n t ≡ none
  unfolding sequences.placed sequences.rule_a sequences.rule_b sequences.rule_c sequences.rule_d sequences.rule_e
  none_placed n t h = rw (no_match _ _ n h, no_match _ _ n h, no_match _ _ n h, no_match _ _ n h, no_match _ _ n h)

  -- one that is not is a match for e)
  a_match : (n i : ℕ) → i < n → to_place (get_or ts i no_delivery) ≡ false → is_none (matches min (λ o. true) ts n) ≡ false
  unfolding sequences.matches
  a_match zero i l e = absurd (omega arith)
  a_match (suc n) i l e = elim (dec_lt i n) [
    | yes m ↦ joined_left min (matches min (λ o. true) ts n) (match (λ o. true) (get_or ts n no_delivery)) (a_match n i m e)
    | no m ↦ (let k : i ≡ n = omega arith in rw (← k, e) (joined_right min (matches min (λ o. true) ts i) (sequences.times_ten (get_or ts i no_delivery).sequence)))
  ]

  all_placed : (n i : ℕ) → i < n → to_place (get_or ts i no_delivery) ≡ false → (t : Delivery) → is_none (placed ts n t) ≡ false
  unfolding sequences.placed sequences.rule_e
  all_placed n i l e t =
      otherwise_some (rule_a ts n t) _
      (otherwise_some (rule_b ts n t) _
      (otherwise_some (rule_c ts n t) _ (otherwise_some (rule_d ts n t) _ (before_some (matches min (λ o. true) ts n) (a_match n i l e)))))

-- the first delivery with a number of its own
abbrev pub placer : Hour → Option ℕ
placer h = find_to (λ i. not (to_place (delivery_at h i))) h.ndeliveries

pub all_numbered : (h : Hour) (j : ℕ) → placer h ≡ some j → (t : Delivery) → is_none (numbered h.deliveries h.ndeliveries t) ≡ false
unfolding sequences.numbered
all_numbered h j e t =
    let f = find_to_passes (λ i. not (to_place (delivery_at h i))) h.ndeliveries j e in
    go (to_place t) (all_placed h.deliveries h.ndeliveries j f.0 (not-true (to_place (delivery_at h j)) f.1) t)
  where
    go : (b : Bool) → is_none (placed h.deliveries h.ndeliveries t) ≡ false → is_none (when b then placed h.deliveries h.ndeliveries t else some (sequences.times_ten t.sequence)) ≡ false
    go true k = k
    go false k = refl

pub none_numbered : (h : Hour) → placer h ≡ none → (i : ℕ) → i < h.ndeliveries → is_none (numbered h.deliveries h.ndeliveries (delivery_at h i)) ≡ true
unfolding sequences.numbered
none_numbered h e i l =
    let unnumbered : (j : ℕ) → j < h.ndeliveries → to_place (delivery_at h j) ≡ true = λ j m. not-false (to_place (delivery_at h j)) (find_to_none (λ i. not (to_place (delivery_at h i))) h.ndeliveries e j m) in
    rw (unnumbered i l, none_placed h.deliveries h.ndeliveries (delivery_at h i) unnumbered)
