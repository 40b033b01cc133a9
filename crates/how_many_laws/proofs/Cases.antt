-- How many rings there are, computed: by definition for k = 2 and n up to 8, by the formulas for these and where no one counts them. The numbers are those of
-- the sources' tables and of sums done by hand.
use Rattle.words.proofs.Plain.{suc, ◌≡◌, refl, [], ◌∷◌}
use Rattle.words.specs.Search.{tab}
use Rattle.rings.specs.{Necklace.necklace, Necklace.lyndon, Steps.how_many, Open.open-all}
use Rattle.how_many_number_spec.specs.Open.{open-numbers}
use Rattle.how_many_laws.specs.Formulas.{necklace_sum, necklace_formula, plus_sum, minus_sum, lyndon_formula}

-- ---- by definition

pub necklaces : tab 8 (λ i. how_many necklace (suc i) 2) ≡ (2 ∷ 3 ∷ 4 ∷ 6 ∷ 8 ∷ 14 ∷ 20 ∷ 36 ∷ [])
unfolding open-all
necklaces = refl

pub lyndons : tab 8 (λ i. how_many lyndon (suc i) 2) ≡ (2 ∷ 1 ∷ 2 ∷ 3 ∷ 6 ∷ 9 ∷ 18 ∷ 30 ∷ [])
unfolding open-all
lyndons = refl

-- ---- by the formulas

pub necklaces-by : tab 8 (λ i. necklace_formula (suc i) 2) ≡ (2 ∷ 3 ∷ 4 ∷ 6 ∷ 8 ∷ 14 ∷ 20 ∷ 36 ∷ [])
unfolding open-numbers necklace_sum necklace_formula
necklaces-by = refl

pub lyndons-by : tab 8 (λ i. lyndon_formula (suc i) 2) ≡ (2 ∷ 1 ∷ 2 ∷ 3 ∷ 6 ∷ 9 ∷ 18 ∷ 30 ∷ [])
unfolding open-numbers plus_sum minus_sum lyndon_formula
lyndons-by = refl

-- 2 12, 3 10 and 2 32
pub known : (necklace_formula 12 2 ∷ lyndon_formula 12 2 ∷ necklace_formula 10 3 ∷ lyndon_formula 10 3 ∷ []) ≡ (352 ∷ 335 ∷ 5934 ∷ 5880 ∷ [])
unfolding open-numbers necklace_sum necklace_formula plus_sum minus_sum lyndon_formula
known = refl

pub large : (necklace_formula 32 2 ∷ lyndon_formula 32 2 ∷ []) ≡ (134219796 ∷ 134215680 ∷ [])
unfolding open-numbers necklace_sum necklace_formula plus_sum minus_sum lyndon_formula
large = refl
