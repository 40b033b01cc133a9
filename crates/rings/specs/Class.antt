-- The class of a reading (01, 'Rules the work stands on'; 02, b): Loose, with the place where it goes wrong, is no prenecklace; Opening, with its lyn,
-- is a prenecklace and no necklace; Repeating, with its period, is a necklace and no Lyndon word; Single is a Lyndon word.
--     Classed w c    w is of class c, by the page's sentence for c
--     class_of w      the class of w
--     tag_of c, value_of c, same_class a b    its case and the number that it carries, by which two classes are the same
--     is_loose c, is_necklace c              whether it is Loose, and whether it is a necklace's
--     loose_place c   the place that Loose carries, 0 for the other classes
--     look_at w       the sector of w to look at
-- That each reading has exactly one class, `class_of w`: `ring_laws`, proofs/Classes.
use Rattle.std.specs.Prelude.{ℕ, ◌≡◌, Bool, true, false, ◌&&◌, List, eqb}
use Rattle.rings.specs.declared.Class.{Class}
use Rattle.rings.specs.declared.Class.TheVariants.{Loose, Opening, Repeating, Single}
use Rattle.rings.specs.Necklace.{necklace, lyndon, period}
use Rattle.rings.specs.Prenecklace.{prenecklace, lyn, wrong_place}

-- w is of this class
abbrev pub Classed : List ℕ → Class → Type 0
Classed w (Loose p) = (prenecklace w ≡ false) × (wrong_place w ≡ p)
Classed w (Opening p) = (prenecklace w ≡ true) × (necklace w ≡ false) × (lyn w ≡ p)
Classed w (Repeating p) = (necklace w ≡ true) × (lyndon w ≡ false) × (period w ≡ p)
Classed w Single = lyndon w ≡ true

-- the class of a necklace
unfoldable pub necklace_class : List ℕ → Class
necklace_class w = elim (lyndon w) [ true ↦ Single | false ↦ Repeating (period w) ]

-- the class of a prenecklace
unfoldable pub prenecklace_class : List ℕ → Class
prenecklace_class w = elim (necklace w) [ true ↦ necklace_class w | false ↦ Opening (lyn w) ]

-- the class of a reading
unfoldable pub class_of : List ℕ → Class
class_of w = elim (prenecklace w) [ true ↦ prenecklace_class w | false ↦ Loose (wrong_place w) ]

-- ---- what a class is and carries

-- its case
abbrev pub tag_of : Class → ℕ
tag_of (Loose p) = 0
tag_of (Opening p) = 1
tag_of (Repeating p) = 2
tag_of Single = 3

-- the number that it carries; Single carries none, and gives 0
abbrev pub value_of : Class → ℕ
value_of (Loose p) = p
value_of (Opening p) = p
value_of (Repeating p) = p
value_of Single = 0

-- two classes are the same: their cases are, and their numbers are
abbrev pub same_class : Class → Class → Bool
same_class a b = eqb (tag_of a) (tag_of b) && eqb (value_of a) (value_of b)

abbrev pub is_loose : Class → Bool
is_loose (Loose p) = true
is_loose (Opening p) = false
is_loose (Repeating p) = false
is_loose Single = false

-- a reading of this class is a necklace: it is Repeating or Single
abbrev pub is_necklace : Class → Bool
is_necklace (Loose p) = false
is_necklace (Opening p) = false
is_necklace (Repeating p) = true
is_necklace Single = true

-- the place that Loose carries; the other classes have none to look at, and give 0
abbrev pub loose_place : Class → ℕ
loose_place (Loose p) = p
loose_place (Opening p) = 0
loose_place (Repeating p) = 0
loose_place Single = 0

-- the sector of w to look at, for Off walk and Not home: the place where w goes wrong where it is Loose, 0 otherwise
unfoldable pub look_at : List ℕ → ℕ
look_at w = loose_place (class_of w)
