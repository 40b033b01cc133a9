-- The gray of each shade, from 0, black, to 255, white: shade 0 is black, shade k - 1 is white.
--     managed_grays         the grays of a colour-managed print, in 15 rows of 16 for k from 2 to 16; a row's places from k on are 0
--     gray tone k s        the gray of shade s of k: by the table, or 255 s / (k - 1) to the nearest
-- A gray g of an SVG is coded by the sRGB curve: it stands for the reflectance that the curve has at g / 255. The table has, for each shade, the gray nearest to the
-- inverse of that curve at s / (k - 1). That each shade is read back from its gray: picture_gray_laws.
use Rattle.std.specs.Prelude.{ℕ, ◌+◌, ◌-◌, ◌*◌, ◌/◌, List, [], ◌∷◌, get_or}
use Rattle.picture_spec.specs.declared.Tone.{Tone}
use Rattle.picture_spec.specs.declared.Tone.TheVariants.{Managed, Levels}

unfoldable pub managed_grays : List ℕ
managed_grays =
    0 ∷ 255 ∷ 0 ∷ 0 ∷ 0 ∷ 0 ∷ 0 ∷ 0 ∷ 0 ∷ 0 ∷ 0 ∷ 0 ∷ 0 ∷ 0 ∷ 0 ∷ 0 ∷
    0 ∷ 188 ∷ 255 ∷ 0 ∷ 0 ∷ 0 ∷ 0 ∷ 0 ∷ 0 ∷ 0 ∷ 0 ∷ 0 ∷ 0 ∷ 0 ∷ 0 ∷ 0 ∷
    0 ∷ 156 ∷ 213 ∷ 255 ∷ 0 ∷ 0 ∷ 0 ∷ 0 ∷ 0 ∷ 0 ∷ 0 ∷ 0 ∷ 0 ∷ 0 ∷ 0 ∷ 0 ∷
    0 ∷ 137 ∷ 188 ∷ 225 ∷ 255 ∷ 0 ∷ 0 ∷ 0 ∷ 0 ∷ 0 ∷ 0 ∷ 0 ∷ 0 ∷ 0 ∷ 0 ∷ 0 ∷
    0 ∷ 124 ∷ 170 ∷ 203 ∷ 231 ∷ 255 ∷ 0 ∷ 0 ∷ 0 ∷ 0 ∷ 0 ∷ 0 ∷ 0 ∷ 0 ∷ 0 ∷ 0 ∷
    0 ∷ 113 ∷ 156 ∷ 188 ∷ 213 ∷ 235 ∷ 255 ∷ 0 ∷ 0 ∷ 0 ∷ 0 ∷ 0 ∷ 0 ∷ 0 ∷ 0 ∷ 0 ∷
    0 ∷ 106 ∷ 146 ∷ 175 ∷ 199 ∷ 220 ∷ 238 ∷ 255 ∷ 0 ∷ 0 ∷ 0 ∷ 0 ∷ 0 ∷ 0 ∷ 0 ∷ 0 ∷
    0 ∷ 99 ∷ 137 ∷ 165 ∷ 188 ∷ 207 ∷ 225 ∷ 240 ∷ 255 ∷ 0 ∷ 0 ∷ 0 ∷ 0 ∷ 0 ∷ 0 ∷ 0 ∷
    0 ∷ 94 ∷ 130 ∷ 156 ∷ 178 ∷ 197 ∷ 213 ∷ 228 ∷ 242 ∷ 255 ∷ 0 ∷ 0 ∷ 0 ∷ 0 ∷ 0 ∷ 0 ∷
    0 ∷ 89 ∷ 124 ∷ 149 ∷ 170 ∷ 188 ∷ 203 ∷ 218 ∷ 231 ∷ 243 ∷ 255 ∷ 0 ∷ 0 ∷ 0 ∷ 0 ∷ 0 ∷
    0 ∷ 85 ∷ 118 ∷ 143 ∷ 162 ∷ 180 ∷ 195 ∷ 209 ∷ 222 ∷ 233 ∷ 245 ∷ 255 ∷ 0 ∷ 0 ∷ 0 ∷ 0 ∷
    0 ∷ 82 ∷ 113 ∷ 137 ∷ 156 ∷ 173 ∷ 188 ∷ 201 ∷ 213 ∷ 225 ∷ 235 ∷ 245 ∷ 255 ∷ 0 ∷ 0 ∷ 0 ∷
    0 ∷ 78 ∷ 109 ∷ 132 ∷ 151 ∷ 167 ∷ 181 ∷ 194 ∷ 206 ∷ 217 ∷ 227 ∷ 237 ∷ 246 ∷ 255 ∷ 0 ∷ 0 ∷
    0 ∷ 76 ∷ 106 ∷ 128 ∷ 146 ∷ 161 ∷ 175 ∷ 188 ∷ 199 ∷ 210 ∷ 220 ∷ 229 ∷ 238 ∷ 247 ∷ 255 ∷ 0 ∷
    0 ∷ 73 ∷ 102 ∷ 124 ∷ 141 ∷ 156 ∷ 170 ∷ 182 ∷ 193 ∷ 203 ∷ 213 ∷ 222 ∷ 231 ∷ 239 ∷ 247 ∷ 255 ∷
    []

-- to the nearest: the half of the divisor is added before dividing
unfoldable pub gray : Tone → ℕ → ℕ → ℕ
gray Managed k s = get_or managed_grays (16 * (k - 2) + s) 0
gray Levels k s = (510 * s + (k - 1)) / (2 * (k - 1))
