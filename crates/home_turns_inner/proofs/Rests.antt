-- Comparing two readings v and w of n sectors, sector by sector: what is left from place m on decides. Of the two sectors at place m,
-- x is that of v and y that of w.
--     same-no, same-on, same_end                      whether v is w
--     differing-one, differing-on, differing-end      at how many places they differ
use Rattle.words.proofs.Plain.{ℕ, ◌+◌, ◌<◌, ◌≤◌, add-one, arith, ◌≡◌, true, false, List, [], ◌∷◌, length, get_or, drop, drop_of_length-le, drop-cons, eq-eqb}
use Rattle.words.proofs.Plain.{ne_eqb}
use Rattle.words.specs.Order.{same}
use Rattle.rings.specs.Alike.{differing}

-- ---- at place m

module _ (v w : List ℕ) (n m x y : ℕ) (p : length v ≡ n) (q : length w ≡ n) (l : m < n) (e : x ≡ get_or v m 0) (d : y ≡ get_or w m 0) where
  rest-left : drop m v ≡ x ∷ drop (m + 1) v
  rest-left = rw (add-one m, e) (drop-cons v m 0 (omega arith))

  rest-right : drop m w ≡ y ∷ drop (m + 1) w
  rest-right = rw (add-one m, d) (drop-cons w m 0 (omega arith))

  -- sectors that differ decide
  pub same-no : same (drop m v) (drop m w) ≡ same v w → (x ≡ y → ⊥) → false ≡ same v w
  unfolding same
  same-no r h = let s = rw (rest-left, rest-right) at r in rw (ne_eqb x y h) at s

  -- behind equal sectors the rest decides
  pub same-on : same (drop m v) (drop m w) ≡ same v w → x ≡ y → same (drop (m + 1) v) (drop (m + 1) w) ≡ same v w
  unfolding same
  same-on r h = let s = rw (rest-left, rest-right) at r in rw (eq-eqb x y h) at s

  -- sectors that differ count one
  pub differing-one : (t : ℕ) → t + differing (drop m v) (drop m w) ≡ differing v w → (x ≡ y → ⊥) → t + 1 + differing (drop (m + 1) v) (drop (m + 1) w) ≡ differing v w
  unfolding differing
  differing-one t r h = let s = rw (rest-left, rest-right) at r in let g = rw (ne_eqb x y h) at s in omega arith

  -- equal sectors do not count
  pub differing-on : (t : ℕ) → t + differing (drop m v) (drop m w) ≡ differing v w → x ≡ y → t + differing (drop (m + 1) v) (drop (m + 1) w) ≡ differing v w
  unfolding differing
  differing-on t r h = let s = rw (rest-left, rest-right) at r in let g = rw (eq-eqb x y h) at s in omega arith

-- ---- at the end

module _ (v w : List ℕ) (n m : ℕ) (p : length v ≡ n) (q : length w ≡ n) (l : n ≤ m) where
  none_left : drop m v ≡ []
  none_left = drop_of_length-le v {i = m} (omega arith)

  none_right : drop m w ≡ []
  none_right = drop_of_length-le w {i = m} (omega arith)

  -- readings that agree to the end are one
  pub same_end : same (drop m v) (drop m w) ≡ same v w → true ≡ same v w
  unfolding same
  same_end r = rw (none_left, none_right) at r

  -- at the end all places are counted
  pub differing-end : (t : ℕ) → t + differing (drop m v) (drop m w) ≡ differing v w → t ≡ differing v w
  unfolding differing
  differing-end t r = let g = rw none_left at r in omega arith
