-- Laws of pieces laid over a list of words: what lies apart from every piece stays as it was, and each piece is read again. The pieces fill
-- regions, a place and how many words at most each, so that a new piece or another layout is a row more and no law more.
use mathlib.Core.Path.{◌≡◌, refl, ap, ◌∙◌}
use mathlib.Core.List.{List, [], ◌∷◌, ◌++◌, Memᴰ}
use Prim.Native.Nat.{ℕ, ◌+◌, ◌≤◌, ◌<◌}
use native.Mathlib.Omega.{arith}
use lib.ListN.{length, get_or}
use Rattle.meaning.specs.Table.{part, place, Piece, lay}
use Rattle.meaning.proofs.PlaceLaws.{length-place, get_or_away, part_same, part_away}

pub record Region : Type 0 where
  pub at : ℕ
  pub most : ℕ

abbrev pub region : ℕ → ℕ → Region
region at most = record { at = at; most = most }

-- the words from a on, k of them, lie apart from every region
pub data Apart (a k : ℕ) : List Region → Type 0 where
  Apart-nil : Apart a k []
  Apart-cons : {r : Region} {rs : List Region} → (a < r.at + r.most → r.at < a + k → ⊥) → Apart a k rs → Apart a k (r ∷ rs)

-- every region lies within m words
pub data Inside (m : ℕ) : List Region → Type 0 where
  Inside-nil : Inside m []
  Inside-cons : {r : Region} {rs : List Region} → r.at + r.most ≤ m → Inside m rs → Inside m (r ∷ rs)

-- no two regions meet
pub data Disjoint : List Region → Type 0 where
  Disjoint-nil : Disjoint []
  Disjoint-cons : {r : Region} {rs : List Region} → Apart r.at r.most rs → Disjoint rs → Disjoint (r ∷ rs)

-- each piece stands at its region's place and has no more words
pub data Fills : List Piece → List Region → Type 0 where
  Fills-nil : Fills [] []
  Fills-cons :
      {x : Piece} {xs : List Piece} {r : Region} {rs : List Region} → x.at ≡ r.at → length x.new ≤ r.most → Fills xs rs →
      Fills (x ∷ xs) (r ∷ rs)

-- every region lies from lo on and before hi
pub data Between (lo hi : ℕ) : List Region → Type 0 where
  Between-nil : Between lo hi []
  Between-cons : {r : Region} {rs : List Region} → lo ≤ r.at → r.at + r.most ≤ hi → Between lo hi rs → Between lo hi (r ∷ rs)

-- so that what lies outside lies apart from every region, they lie within as many words, and regions after them meet none of them
pub apart_between : (lo hi a k : ℕ) (rs : List Region) → Between lo hi rs → (a < hi → lo < a + k → ⊥) → Apart a k rs
apart_between lo hi a k [] Between-nil out = Apart-nil
apart_between lo hi a k (r ∷ rs) (Between-cons l h b) out =
    Apart-cons {r = r} (λ u v. out (omega (arith, h, u)) (omega (arith, l, v))) (apart_between lo hi a k rs b out)

pub inside_between : (lo hi m : ℕ) (rs : List Region) → Between lo hi rs → hi ≤ m → Inside m rs
inside_between lo hi m [] Between-nil e = Inside-nil
inside_between lo hi m (r ∷ rs) (Between-cons l h b) e = Inside-cons {r = r} (omega (arith, h, e)) (inside_between lo hi m rs b e)

pub apart_append : (a k : ℕ) (rs ss : List Region) → Apart a k rs → Apart a k ss → Apart a k (rs ++ ss)
apart_append a k [] ss Apart-nil o = o
apart_append a k (r ∷ rs) ss (Apart-cons g o) o' = Apart-cons g (apart_append a k rs ss o o')

pub inside_append : (m : ℕ) (rs ss : List Region) → Inside m rs → Inside m ss → Inside m (rs ++ ss)
inside_append m [] ss Inside-nil i = i
inside_append m (r ∷ rs) ss (Inside-cons h i) i' = Inside-cons h (inside_append m rs ss i i')

pub disjoint_append :
    (lo mid hi : ℕ) (rs ss : List Region) → Between lo mid rs → Disjoint rs → Between mid hi ss → Disjoint ss → Disjoint (rs ++ ss)
disjoint_append lo mid hi [] ss Between-nil Disjoint-nil c d = d
disjoint_append lo mid hi (r ∷ rs) ss (Between-cons l h b) (Disjoint-cons g o) c d =
    Disjoint-cons
    (apart_append r.at r.most rs ss g (apart_between mid hi r.at r.most ss c (λ u v. omega (arith, h, v))))
    (disjoint_append lo mid hi rs ss b o c d)

pub fills_append : (xs ys : List Piece) (rs ss : List Region) → Fills xs rs → Fills ys ss → Fills (xs ++ ys) (rs ++ ss)
fills_append [] ys [] ss Fills-nil g = g
fills_append (x ∷ xs) ys (r ∷ rs) ss (Fills-cons e l f) g = Fills-cons e l (fills_append xs ys rs ss f g)
fills_append [] ys (r ∷ rs) ss x4 g = elim x4 [ ]
fills_append (x ∷ xs) ys [] ss x5 g = elim x5 [ ]

-- a piece of a list, with others before or after it
pub among_left : (x : Piece) (xs ys : List Piece) → Memᴰ x xs → Memᴰ x (xs ++ ys)
among_left x (y ∷ xs) ys (Memᴰ.head q) = Memᴰ.head q
among_left x (y ∷ xs) ys (Memᴰ.tail m) = Memᴰ.tail (among_left x xs ys m)
among_left x [] ys x'' = elim x'' [ ]

pub among_right : (x : Piece) (xs ys : List Piece) → Memᴰ x ys → Memᴰ x (xs ++ ys)
among_right x [] ys m = m
among_right x (y ∷ xs) ys m = Memᴰ.tail (among_right x xs ys m)

-- pieces laid over others
pub lay-append : (xs ys : List Piece) (t : List ℕ) → lay (xs ++ ys) t ≡ lay xs (lay ys t)
unfolding lay
lay-append [] ys t = refl
lay-append (x ∷ xs) ys t = ap (place x.at x.new) (lay-append xs ys t)

-- what lies apart from the regions lies apart from each piece, and the pieces lie where the regions do
apart_at :
    (a k : ℕ) (x : Piece) (xs : List Piece) (rs : List Region) → Fills xs rs → Apart a k rs → Memᴰ x xs → a < x.at + length x.new → x.at < a + k → ⊥
apart_at a k x (y ∷ xs) (r ∷ rs) (Fills-cons e l f) (Apart-cons g o) (Memᴰ.head q) = rw q (λ u v. g (omega (arith, e, l, u)) (omega (arith, e, v)))
apart_at a k x (y ∷ xs) (r ∷ rs) (Fills-cons e l f) (Apart-cons g o) (Memᴰ.tail m) = apart_at a k x xs rs f o m
apart_at a k x [] rs _ _ x6 = elim x6 [ ]
apart_at a k x (y ∷ xs) [] x8 _ _ = elim x8 [ ]

inside_at : (n : ℕ) (x : Piece) (xs : List Piece) (rs : List Region) → Fills xs rs → Inside n rs → Memᴰ x xs → x.at + length x.new ≤ n
inside_at n x (y ∷ xs) (r ∷ rs) (Fills-cons e l f) (Inside-cons i j) (Memᴰ.head q) = rw q (omega (arith, e, l, i))
inside_at n x (y ∷ xs) (r ∷ rs) (Fills-cons e l f) (Inside-cons i j) (Memᴰ.tail m) = inside_at n x xs rs f j m
inside_at n x [] rs _ _ x6 = elim x6 [ ]
inside_at n x (y ∷ xs) [] x8 _ _ = elim x8 [ ]

pub length-lay : (xs : List Piece) (rs : List Region) (t : List ℕ) → Fills xs rs → Inside (length t) rs → length (lay xs t) ≡ length t
unfolding lay
length-lay [] [] t Fills-nil i = refl
length-lay (x ∷ xs) (r ∷ rs) t (Fills-cons e l f) (Inside-cons i j) =
    let h = length-lay xs rs t f j in
    length-place x.at x.new (lay xs t) (omega (arith, e, l, i, h)) ∙ h
length-lay [] (r ∷ rs) t x4 i = elim x4 [ ]
length-lay (x ∷ xs) [] t x5 i = elim x5 [ ]

-- A part that lies apart from every region is as it was
pub lay_away :
    (xs : List Piece) (rs : List Region) (t : List ℕ) → Fills xs rs → Inside (length t) rs → (a k : ℕ) → a + k ≤ length t → Apart a k rs →
    part a k (lay xs t) ≡ part a k t
unfolding lay
lay_away [] [] t Fills-nil i a k w o = refl
lay_away (x ∷ xs) (r ∷ rs) t (Fills-cons e l f) (Inside-cons i j) a k w (Apart-cons g o) =
    let h = length-lay xs rs t f j in
    part_away a k x.at x.new (lay xs t) (omega (arith, e, l, i, h)) (omega (arith, h)) (λ u v. g (omega (arith, e, l, u)) (omega (arith, e, v))) ∙
    lay_away xs rs t f j a k w o
lay_away [] (r ∷ rs) t x8 i a k w o = elim x8 [ ]
lay_away (x ∷ xs) [] t x7 i a k w o = elim x7 [ ]

-- and so is a word
pub lay_word :
    (xs : List Piece) (rs : List Region) (t : List ℕ) → Fills xs rs → Inside (length t) rs → (i : ℕ) → Apart i 1 rs → get_or (lay xs t) i 0 ≡ get_or t i 0
unfolding lay
lay_word [] [] t Fills-nil j i o = refl
lay_word (x ∷ xs) (r ∷ rs) t (Fills-cons e l f) (Inside-cons c j) i (Apart-cons g o) =
    let h = length-lay xs rs t f j in
    get_or_away i x.at x.new (lay xs t) (omega (arith, e, l, c, h)) (λ u v. g (omega (arith, e, l, u)) (omega (arith, e, v))) ∙
    lay_word xs rs t f j i o
lay_word [] (r ∷ rs) t x6 j i o = elim x6 [ ]
lay_word (x ∷ xs) [] t x6 j i o = elim x6 [ ]

-- A piece is read again
pub lay_back :
    (xs : List Piece) (rs : List Region) (t : List ℕ) → Fills xs rs → Inside (length t) rs → Disjoint rs → (x : Piece) → Memᴰ x xs →
    part x.at (length x.new) (lay xs t) ≡ x.new
unfolding lay
lay_back (y ∷ xs) (r ∷ rs) t (Fills-cons e l f) (Inside-cons i j) (Disjoint-cons g o) x (Memᴰ.head q) =
    let h = length-lay xs rs t f j in
    rw q (part_same y.at y.new (lay xs t) (length y.new) refl (omega (arith, e, l, i, h)))
lay_back (y ∷ xs) (r ∷ rs) t (Fills-cons e l f) (Inside-cons i j) (Disjoint-cons g o) x (Memᴰ.tail m) =
    let h = length-lay xs rs t f j in
    let w = inside_at (length t) x xs rs f j m in
    part_away x.at (length x.new) y.at y.new (lay xs t) (omega (arith, e, l, i, h)) (omega (arith, h, w))
    (λ u v. apart_at r.at r.most x xs rs f g m (omega (arith, e, v)) (omega (arith, e, l, u))) ∙
    lay_back xs rs t f j o x m
lay_back [] rs t _ _ _ x x9 = elim x9 [ ]
lay_back (y ∷ xs) [] t x12 _ _ x _ = elim x12 [ ]
