-- Laws of `part` and `place`: what is read of a list after another was put over some of its words. Callers use these laws and never open the two.
use mathlib.Core.Path.{◌≡◌, refl, sym, ap, ◌∙◌}
use mathlib.Core.List.{List, [], ◌∷◌, ◌++◌, append-nil}
use Prim.Native.Nat.{ℕ, ◌+◌, ◌-◌, ◌≤◌, ◌<◌}
use native.Mathlib.Nat.{add-zero, zero-add}
use native.Mathlib.Numerals.{add-one}
use native.Mathlib.Omega.{arith}
use native.Mathlib.Decide.{dec_le, dec_lt}
use lib.ListN.{length, get_or, take, drop, set, length-append, length-take, length-drop, get_or-append, take-append-drop}
use lib.Seq.{get_or-take, get_or-drop, get_or-append-add, ext_get_or, length-take-le, drop-drop}
use lib.Seq.{set_split, drop-length}
use Rattle.meaning.specs.Table.{part, place}

module _ (at : ℕ) (ys t : List ℕ) (fits : at + length ys ≤ length t) where
  front_length : length (take at t) ≡ at
  front_length = length-take-le at t (omega arith)

  pub length-place : length (place at ys t) ≡ length t
  unfolding place
  length-place = simp (length-append, length-drop, front_length) (omega arith)

  -- an entry before, within and after what was put
  pub get_or_before : (i : ℕ) → i < at → get_or (place at ys t) i 0 ≡ get_or t i 0
  unfolding place
  get_or_before i h =
      let l = front_length in
      get_or-append (take at t) (ys ++ drop (at + length ys) t) 0 i (omega arith) ∙ get_or-take at t i 0 h

  pub get_or_within : (i j : ℕ) → j ≡ at + i → i < length ys → get_or (place at ys t) j 0 ≡ get_or ys i 0
  unfolding place
  get_or_within i j e h =
      let l = front_length in
      let q : j ≡ length (take at t) + i = omega arith in
      rw q (get_or-append-add (take at t) (ys ++ drop (at + length ys) t) i 0 ∙ get_or-append ys (drop (at + length ys) t) 0 i h)

  pub get_d_beyond : (i : ℕ) → at + length ys ≤ i → get_or (place at ys t) i 0 ≡ get_or t i 0
  unfolding place
  get_d_beyond i h =
      let l = front_length in
      let j : ℕ = i - (at + length ys) in
      let q : i ≡ length (take at t) + (length ys + j) = omega arith in
      let q' : i ≡ (at + length ys) + j = omega arith in
      ap (λ (m : ℕ). get_or (take at t ++ (ys ++ drop (at + length ys) t)) m 0) q ∙
      get_or-append-add (take at t) (ys ++ drop (at + length ys) t) (length ys + j) 0 ∙
      get_or-append-add ys (drop (at + length ys) t) j 0 ∙
      get_or-drop (at + length ys) t j 0 ∙
      ap (λ (m : ℕ). get_or t m 0) (sym q')

pub length_part : (at k : ℕ) (t : List ℕ) → at + k ≤ length t → length (part at k t) ≡ k
unfolding part
length_part at k t h = simp (length-take, length-drop) (omega arith)

pub get_d_part : (at k : ℕ) (t : List ℕ) (i j : ℕ) → j ≡ at + i → i < k → get_or (part at k t) i 0 ≡ get_or t j 0
unfolding part
get_d_part at k t i j e h = rw e (get_or-take k (drop at t) i 0 h ∙ get_or-drop at t i 0)

-- what a slice from at to at + k lends is the part there
pub part_lent : (at k : ℕ) (t : List ℕ) → take ((at + k) - at) (drop at t) ≡ part at k t
unfolding part
part_lent at k t =
    let e : (at + k) - at ≡ k = omega arith in
    ap (λ (m : ℕ). take m (drop at t)) e

pub inside_lent : (at k : ℕ) (t : List ℕ) (i : ℕ) → i < k → at + k ≤ length t → i < length (take ((at + k) - at) (drop at t))
inside_lent at k t i h fits =
    let l = ap length (part_lent at k t) ∙ length_part at k t fits in
    omega arith

-- what was put is read again
pub part_same : (at : ℕ) (ys t : List ℕ) (k : ℕ) → k ≡ length ys → at + length ys ≤ length t → part at k (place at ys t) ≡ ys
part_same at ys t k e fits =
    ext_get_or 0 (part at k (place at ys t)) ys
    (length_part at k (place at ys t) (rw (length-place at ys t fits) (omega arith)) ∙ e)
    (λ i h.
    let l : length (part at k (place at ys t)) ≡ k = length_part at k (place at ys t) (rw (length-place at ys t fits) (omega arith)) in
    get_d_part at k (place at ys t) i (at + i) refl (omega arith) ∙ get_or_within at ys t fits i (at + i) refl (omega arith))

-- a part that lies apart from what was put is as it was
pub part_away :
    (a k at : ℕ) (ys t : List ℕ) → at + length ys ≤ length t → a + k ≤ length t → (a < at + length ys → at < a + k → ⊥) →
    part a k (place at ys t) ≡ part a k t
part_away a k at ys t fits fit' apart =
    let lp : length (place at ys t) ≡ length t = length-place at ys t fits in
    let l : length (part a k (place at ys t)) ≡ k = length_part a k (place at ys t) (omega arith) in
    let l' : length (part a k t) ≡ k = length_part a k t fit' in
    ext_get_or 0 (part a k (place at ys t)) (part a k t) (l ∙ sym l')
    (λ i h.
    let h' : i < k = omega arith in
    get_d_part a k (place at ys t) i (a + i) refl h' ∙ entry i h' ∙ sym (get_d_part a k t i (a + i) refl h'))
  where
    entry : (i : ℕ) → i < k → get_or (place at ys t) (a + i) 0 ≡ get_or t (a + i) 0
    entry i h = go (dec_lt (a + i) at) (dec_le (at + length ys) (a + i))
      where
        go : Dec (a + i < at) → Dec (at + length ys ≤ a + i) → get_or (place at ys t) (a + i) 0 ≡ get_or t (a + i) 0
        go (yes b) w = get_or_before at ys t fits (a + i) b
        go (no b) (yes w) = get_d_beyond at ys t fits (a + i) w
        go (no b) (no w) = absurd (apart (omega arith) (omega arith))

-- a list that agrees with ys from `at` on and with t elsewhere is t with ys put there
pub place_is :
    (at : ℕ) (ys t u : List ℕ) →
    at + length ys ≤ length t →
    length u ≡ length t →
    ((i : ℕ) → i < at → get_or u i 0 ≡ get_or t i 0) →
    ((i j : ℕ) → j ≡ at + i → i < length ys → get_or u j 0 ≡ get_or ys i 0) →
    ((i : ℕ) → at + length ys ≤ i → get_or u i 0 ≡ get_or t i 0) →
    u ≡ place at ys t
place_is at ys t u fits long before within beyond =
    let lp : length (place at ys t) ≡ length t = length-place at ys t fits in
    ext_get_or 0 u (place at ys t) (long ∙ sym lp) (λ i h. go i (dec_lt i at) (dec_le (at + length ys) i))
  where
    go : (i : ℕ) → Dec (i < at) → Dec (at + length ys ≤ i) → get_or u i 0 ≡ get_or (place at ys t) i 0
    go i (yes b) w = before i b ∙ sym (get_or_before at ys t fits i b)
    go i (no b) (yes w) = beyond i w ∙ sym (get_d_beyond at ys t fits i w)
    go i (no b) (no w) =
        let e : i ≡ at + (i - at) = omega arith in
        within (i - at) i e (omega arith) ∙ sym (get_or_within at ys t fits (i - at) i e (omega arith))

-- an entry apart from what was put
pub get_or_away : (i at : ℕ) (ys t : List ℕ) → at + length ys ≤ length t → (i < at + length ys → at ≤ i → ⊥) → get_or (place at ys t) i 0 ≡ get_or t i 0
get_or_away i at ys t fits apart = go (dec_lt i at) (dec_le (at + length ys) i)
  where
    go : Dec (i < at) → Dec (at + length ys ≤ i) → get_or (place at ys t) i 0 ≡ get_or t i 0
    go (yes b) w = get_or_before at ys t fits i b
    go (no b) (yes w) = get_d_beyond at ys t fits i w
    go (no b) (no w) = absurd (apart (omega arith) (omega arith))

-- putting back what is there changes nothing
pub place-part : (at k : ℕ) (t : List ℕ) → at + k ≤ length t → place at (part at k t) t ≡ t
place-part at k t h =
    let l : length (part at k t) ≡ k = length_part at k t h in
    sym
    (place_is at (part at k t) t t (omega arith) refl (λ i b. refl)
    (λ i j e b. sym (get_d_part at k t i j e (omega arith)))
    (λ i b. refl))

-- two lists put one after the other
pub place-append :
    (at next : ℕ) (xs ys t : List ℕ) → next ≡ at + length xs → next + length ys ≤ length t →
    place next ys (place at xs t) ≡ place at (xs ++ ys) t
place-append at next xs ys t e fits =
    let la : length (xs ++ ys) ≡ length xs + length ys = length-append xs ys in
    let lx : length (place at xs t) ≡ length t = length-place at xs t (omega arith) in
    let fx : at + length xs ≤ length t = omega arith in
    let fy : next + length ys ≤ length (place at xs t) = omega arith in
    place_is at (xs ++ ys) t (place next ys (place at xs t)) (omega arith)
    (length-place next ys (place at xs t) fy ∙ lx)
    (λ i b. get_or_before next ys (place at xs t) fy i (omega arith) ∙ get_or_before at xs t fx i b)
    (λ i j f b. go fx fy la i j f b (dec_lt i (length xs)))
    (λ i b. get_d_beyond next ys (place at xs t) fy i (omega arith) ∙ get_d_beyond at xs t fx i (omega arith))
  where
    go :
        at + length xs ≤ length t →
        next + length ys ≤ length (place at xs t) →
        length (xs ++ ys) ≡ length xs + length ys →
        (i j : ℕ) → j ≡ at + i → i < length (xs ++ ys) → Dec (i < length xs) → get_or (place next ys (place at xs t)) j 0 ≡ get_or (xs ++ ys) i 0
    go fx fy la i j f b (yes w) =
        get_or_before next ys (place at xs t) fy j (omega arith) ∙ get_or_within at xs t fx i j f w ∙ sym (get_or-append xs ys 0 i w)
    go fx fy la i j f b (no w) =
        let q : i ≡ length xs + (i - length xs) = omega arith in
        get_or_within next ys (place at xs t) fy (i - length xs) j (omega arith) (omega arith) ∙
        sym (ap (λ (m : ℕ). get_or (xs ++ ys) m 0) q ∙ get_or-append-add xs ys (i - length xs) 0)

-- what was put is put over
pub place_over : (at : ℕ) (xs ys t : List ℕ) → length ys ≤ length xs → at + length xs ≤ length t → place at xs (place at ys t) ≡ place at xs t
place_over at xs ys t le fits =
    let fy : at + length ys ≤ length t = omega arith in
    let ly : length (place at ys t) ≡ length t = length-place at ys t fy in
    let fx : at + length xs ≤ length (place at ys t) = omega arith in
    place_is at xs t (place at xs (place at ys t)) fits
    (length-place at xs (place at ys t) fx ∙ ly)
    (λ i b. get_or_before at xs (place at ys t) fx i b ∙ get_or_before at ys t fy i b)
    (λ i j e b. get_or_within at xs (place at ys t) fx i j e b)
    (λ i b. get_d_beyond at xs (place at ys t) fx i b ∙ get_d_beyond at ys t fy i (omega arith))

-- lists put apart from each other, in either order
pub place_comm :
    (a b : ℕ) (xs ys t : List ℕ) →
    a + length xs ≤ length t →
    b + length ys ≤ length t →
    (a < b + length ys → b < a + length xs → ⊥) →
    place a xs (place b ys t) ≡ place b ys (place a xs t)
place_comm a b xs ys t fx fy apart =
    let lx : length (place a xs t) ≡ length t = length-place a xs t fx in
    let ly : length (place b ys t) ≡ length t = length-place b ys t fy in
    let fx' : a + length xs ≤ length (place b ys t) = omega arith in
    let fy' : b + length ys ≤ length (place a xs t) = omega arith in
    place_is b ys (place a xs t) (place a xs (place b ys t)) fy'
    (length-place a xs (place b ys t) fx' ∙ ly ∙ sym lx)
    (λ i h. other fx fy fx' i (omega arith))
    (λ i j e h.
    get_or_away j a xs (place b ys t) fx' (λ p q. apart (omega arith) (omega arith)) ∙ get_or_within b ys t fy i j e h)
    (λ i h. other fx fy fx' i (omega arith))
  where
    other :
        a + length xs ≤ length t →
        b + length ys ≤ length t →
        a + length xs ≤ length (place b ys t) →
        (i : ℕ) → (b ≤ i → i < b + length ys → ⊥) → get_or (place a xs (place b ys t)) i 0 ≡ get_or (place a xs t) i 0
    other fx fy fx' i out = go (dec_lt i a) (dec_le (a + length xs) i)
      where
        under : get_or (place b ys t) i 0 ≡ get_or t i 0
        under = get_or_away i b ys t fy (λ p q. out q p)

        go : Dec (i < a) → Dec (a + length xs ≤ i) → get_or (place a xs (place b ys t)) i 0 ≡ get_or (place a xs t) i 0
        go (yes h) w = get_or_before a xs (place b ys t) fx' i h ∙ under ∙ sym (get_or_before a xs t fx i h)
        go (no h) (yes w) = get_d_beyond a xs (place b ys t) fx' i w ∙ under ∙ sym (get_d_beyond a xs t fx i w)
        go (no h) (no w) =
            let e : i ≡ a + (i - a) = omega arith in
            get_or_within a xs (place b ys t) fx' (i - a) i e (omega arith) ∙ sym (get_or_within a xs t fx (i - a) i e (omega arith))

-- putting into a part, and the part back
pub place_inner : (at k i j : ℕ) (ys t : List ℕ) → j ≡ at + i → i + length ys ≤ k → at + k ≤ length t → place at (place i ys (part at k t)) t ≡ place j ys t
place_inner at k i j ys t e fits fit' =
    let lp : length (part at k t) ≡ k = length_part at k t fit' in
    let fi : i + length ys ≤ length (part at k t) = omega arith in
    let lq : length (place i ys (part at k t)) ≡ k = length-place i ys (part at k t) fi ∙ lp in
    sym
    (place_is at (place i ys (part at k t)) t (place j ys t) (omega arith)
    (length-place j ys t (omega arith))
    (λ m h. get_or_before j ys t (omega arith) m (omega arith))
    (λ m o f h. inside fi lp lq m o f (omega arith) (dec_lt m i) (dec_le (i + length ys) m))
    (λ m h. get_d_beyond j ys t (omega arith) m (omega arith)))
  where
    inside :
        i + length ys ≤ length (part at k t) →
        length (part at k t) ≡ k →
        length (place i ys (part at k t)) ≡ k →
        (m o : ℕ) → o ≡ at + m → m < k → Dec (m < i) → Dec (i + length ys ≤ m) → get_or (place j ys t) o 0 ≡ get_or (place i ys (part at k t)) m 0
    inside fi lp lq m o f h (yes b) w =
        get_or_before j ys t (omega arith) o (omega arith) ∙ sym (get_or_before i ys (part at k t) fi m b ∙ get_d_part at k t m o f h)
    inside fi lp lq m o f h (no b) (yes w) =
        get_d_beyond j ys t (omega arith) o (omega arith) ∙ sym (get_d_beyond i ys (part at k t) fi m w ∙ get_d_part at k t m o f h)
    inside fi lp lq m o f h (no b) (no w) =
        get_or_within j ys t (omega arith) (m - i) o (omega arith) (omega arith) ∙
        sym (get_or_within i ys (part at k t) fi (m - i) m (omega arith) (omega arith))

-- one word
pub set-place : (t : List ℕ) (i v : ℕ) → i < length t → set t i v ≡ place i (v ∷ []) t
unfolding place
set-place t i v h = set_split t i v h ∙ ap (λ (m : ℕ). take i t ++ (v ∷ drop m t)) (sym (add-one i))

-- what the whole list is when a part of it that was lent comes back as ys
pub mid_place : (a k : ℕ) (xs ys : List ℕ) → length ys ≡ k → take a xs ++ (ys ++ drop k (drop a xs)) ≡ place a ys xs
unfolding place
mid_place a k xs ys e = ap (λ (r : List ℕ). take a xs ++ (ys ++ r)) (drop-drop k a xs ∙ ap (λ (m : ℕ). drop (a + m) xs) (sym e))

-- nothing put, and everything put
pub place_none : (at : ℕ) (t : List ℕ) → place at [] t ≡ t
unfolding place
place_none at t = ap (λ (m : ℕ). take at t ++ drop m t) (add-zero at) ∙ take-append-drop at t

pub place-all : (ys t : List ℕ) → length ys ≡ length t → place 0 ys t ≡ ys
unfolding place
place-all ys t e = ap (λ (m : ℕ). ys ++ drop m t) (zero-add (length ys) ∙ e) ∙ ap (λ (r : List ℕ). ys ++ r) (drop-length t) ∙ append-nil ys
