-- Sets worked out by hand, and computed from the definitions.
use Rattle.words.proofs.Plain.{◌≡◌, refl, [], ◌∷◌, length, take, drop, replicate}
use Rattle.rings.specs.Open.{open-all}
use Rattle.set_spec.specs.Greedy.{greedy_by, looked_by, far_from, clear, kept, lyndons, picked, looked_at}
use Rattle.set_spec.specs.Places.{sector_of, laid}

-- of 4 sectors and 2 shades the Lyndon words are 0001, 0011 and 0111: 0011 is 1 apart from 0001, and 0111 is 2 apart from it
two-apart : picked 4 2 2 3 ≡ (0 ∷ 0 ∷ 0 ∷ 1 ∷ []) ∷ (0 ∷ 1 ∷ 1 ∷ 1 ∷ []) ∷ []
unfolding far_from clear greedy_by kept lyndons picked open-all
two-apart = refl

-- two are wanted, and the third is not looked at
one_apart : (picked 4 2 1 2 ≡ (0 ∷ 0 ∷ 0 ∷ 1 ∷ []) ∷ (0 ∷ 0 ∷ 1 ∷ 1 ∷ []) ∷ []) × (looked_at 4 2 1 2 ≡ picked 4 2 1 2)
unfolding far_from clear greedy_by looked_by kept lyndons picked looked_at open-all
one_apart = (refl, refl)

-- of 3 shades: 0102 is 2 apart from 0022, the last one taken, and only 1 from 0001
three-shades : picked 4 3 2 3 ≡ (0 ∷ 0 ∷ 0 ∷ 1 ∷ []) ∷ (0 ∷ 0 ∷ 2 ∷ 2 ∷ []) ∷ (0 ∷ 1 ∷ 1 ∷ 1 ∷ []) ∷ []
unfolding far_from clear greedy_by kept lyndons picked open-all
three-shades = refl

-- of one sector each reading is a Lyndon word, the all-zero ring too
one-sector : picked 1 3 1 32 ≡ (0 ∷ []) ∷ (1 ∷ []) ∷ (2 ∷ []) ∷ []
unfolding far_from clear greedy_by kept lyndons picked open-all
one-sector = refl

-- the places: 24 sectors each, and 32 of them
three-placed : (length (laid ((0 ∷ 1 ∷ []) ∷ (1 ∷ []) ∷ [])) ≡ 768)
    × (take 26 (laid ((0 ∷ 1 ∷ []) ∷ (1 ∷ []) ∷ [])) ≡ 0 ∷ 1 ∷ 0 ∷ 0 ∷ 0 ∷ 0 ∷ 0 ∷ 0 ∷ 0 ∷ 0 ∷ 0 ∷ 0 ∷ 0 ∷ 0 ∷ 0 ∷ 0 ∷ 0 ∷ 0 ∷ 0 ∷ 0 ∷ 0 ∷ 0 ∷ 0 ∷ 0 ∷ 1 ∷ 0 ∷ [])
    × (drop 25 (laid ((0 ∷ 1 ∷ []) ∷ (1 ∷ []) ∷ [])) ≡ replicate 743 0)
unfolding laid sector_of open-all
three-placed = (refl, refl, refl)
