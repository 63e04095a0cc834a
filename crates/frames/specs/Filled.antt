-- What reads put into a window, one after another.
use Rattle.std.specs.Prelude.{◌≡◌, refl, List, [], ℕ, ◌+◌, ◌-◌, ◌≤◌, ◌++◌, length, take, drop, slice_range, Option, None, Some}
use Rattle.std.proofs.Common.{ap, sym, subst, ◌∙◌, arith, append_assoc, take-take, take-add, drop-drop, drop_at}
use Rattle.std.proofs.lemmas.List.{drop-take, take-append-le}
use Rattle.std.specs.Io.KnownBytes.{Consumes}

-- What a reader gave.

pub gave_none : (a : Option (List ℕ)) → Consumes a a []
gave_none None = tt
gave_none (Some xs) = refl

gave_both : (a b c : Option (List ℕ)) (xs ys : List ℕ) → Consumes a b xs → Consumes b c ys → Consumes a c (xs ++ ys)
gave_both None b c xs ys p q = tt
gave_both (Some old) None c xs ys p q = absurd p
gave_both (Some old) (Some mid) None xs ys p q = absurd q
gave_both (Some old) (Some mid) (Some new) xs ys p q = p ∙ ap (λ zs. xs ++ zs) q ∙ sym (append_assoc xs ys new)

-- after what was there
pub gave_after : (a b : Option (List ℕ)) (front part after : List ℕ) (at n : ℕ) → length front ≡ at → n ≤ length part
    → Consumes a b (take n part) → Consumes a b (take n (drop at (front ++ (part ++ after))))
gave_after a b front part after at n long fits p =
    subst (Consumes a b) (sym (ap (take n) (drop_at front (part ++ after) at long) ∙ take-append-le n part after fits)) p

-- What stays, and what comes to it.

-- where more at the front stays, less does
pub front_less : (f h : ℕ) (xs ys : List ℕ) → f ≤ h → take h ys ≡ take h xs → take f ys ≡ take f xs
front_less f h xs ys l e = sym (take-take f h ys l) ∙ ap (take f) e ∙ take-take f h xs l

-- and a part of it
pub part_less : (f h : ℕ) (xs ys : List ℕ) → f ≤ h → take h ys ≡ take h xs → slice_range ys f h ≡ slice_range xs f h
part_less f h xs ys l e = part ys ∙ ap (drop f) e ∙ sym (part xs)
  where
    part : (zs : List ℕ) → slice_range zs f h ≡ drop f (take h zs)
    part zs = let k : f + (h - f) ≡ h = omega (arith, l) in sym (drop-take f (h - f) zs) ∙ ap (λ n. drop f (take n zs)) k

pub part_more : (f h n : ℕ) (ys : List ℕ) → f ≤ h → slice_range ys f (h + n) ≡ slice_range ys f h ++ take n (drop h ys)
part_more f h n ys l =
    let k : (h + n) - f ≡ (h - f) + n = omega (arith, l) in
    let m : f + (h - f) ≡ h = omega (arith, l) in
    ap (λ i. take i (drop f ys)) k ∙ take-add (h - f) n (drop f ys) ∙ ap (λ zs. take (h - f) (drop f ys) ++ take n zs) (drop-drop (h - f) f ys ∙ ap (λ i. drop i ys) m)

-- what was read so far, and then n bytes more
pub filled_more : (a b c : Option (List ℕ)) (f h n : ℕ) (xs ys : List ℕ) → f ≤ h → take h ys ≡ take h xs
    → Consumes a b (slice_range xs f h) → Consumes b c (take n (drop h ys)) → Consumes a c (slice_range ys f (h + n))
filled_more a b c f h n xs ys l e p q =
    subst (Consumes a c) (sym (part_more f h n ys l)) (gave_both a b c _ _ (subst (Consumes a b) (sym (part_less f h xs ys l e)) p) q)

pub filled_none : (a : Option (List ℕ)) (h : ℕ) (xs : List ℕ) → Consumes a a (slice_range xs h h)
filled_none a h xs = let k : h - h ≡ 0 = omega arith in subst (λ n. Consumes a a (take n (drop h xs))) (sym k) (gave_none a)
