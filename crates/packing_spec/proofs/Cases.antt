-- Sectors packed by hand (02, request k), of the definitions themselves: one table, one claim. The last claim computes it.
-- The request's own rows come first. Where a row's bits are not plain to see they stand beside it, a space between two sectors and a bar between two bytes.
use Rattle.words.proofs.Plain.{ℕ, ◌≡◌, refl, Bool, true, false, List, [], ◌∷◌, length}
use Rattle.words.specs.Table.{Hold}
use Rattle.packing_spec.specs.{Width.width, Open.open-packing}
use Rattle.packing_spec.specs.Packing.{packed_length, packed, unpacked, clear_padding, byte_of, bit_at}

-- the shapes of a row
pub data Case : Type 0 where
  -- k, how many bits its highest shade needs
  needs : ℕ → ℕ → Case
  -- k, sectors, the bytes that hold them: they are packed to these, unpacked from these, and the padding is clear
  lies : ℕ → List ℕ → List ℕ → Case
  -- k, n, bytes, whether their padding is clear
  ends-clear : ℕ → ℕ → List ℕ → Bool → Case
  -- k, n, how many bytes n sectors take
  takes : ℕ → ℕ → ℕ → Case
  -- k, a sector, the byte that holds its first bit
  starts : ℕ → ℕ → ℕ → Case
  -- the bits of a part, the part, a bit of it, 0 or 1
  lit : ℕ → ℕ → ℕ → ℕ → Case

-- what a row claims
unfoldable pub Holds : Case → Type 0
Holds (needs k b) = width k ≡ b
Holds (lies k w c) = (packed (width k) w ≡ c) × (unpacked (width k) (length w) c ≡ w) × (clear_padding (width k) (length w) c ≡ true)
Holds (ends-clear k n c x) = clear_padding (width k) n c ≡ x
Holds (takes k n l) = packed_length (width k) n ≡ l
Holds (starts k i j) = byte_of (width k) i ≡ j
Holds (lit b x m y) = bit_at b x m ≡ y

unfoldable pub table : List Case
table =
    needs 2 1 ∷
    needs 5 3 ∷
    lies 2 (0 ∷ 0 ∷ 1 ∷ 0 ∷ 1 ∷ 1 ∷ []) (0x2C ∷ []) ∷
    -- not the request's: the other widths, at their least and greatest k
    needs 3 2 ∷
    needs 4 2 ∷
    needs 8 3 ∷
    needs 9 4 ∷
    needs 16 4 ∷
    -- one bit: seven unused, none, and a second byte begun
    lies 2 (1 ∷ []) (0x80 ∷ []) ∷
    lies 2 (0 ∷ 0 ∷ 1 ∷ 0 ∷ 1 ∷ 1 ∷ 0 ∷ 1 ∷ []) (0x2D ∷ []) ∷
    lies 2 (0 ∷ 0 ∷ 0 ∷ 0 ∷ 0 ∷ 0 ∷ 0 ∷ 0 ∷ 1 ∷ []) (0x00 ∷ 0x80 ∷ []) ∷
    -- two bits: 00 01 10; 00 01 10 11 | 11
    lies 3 (0 ∷ 1 ∷ 2 ∷ []) (0x18 ∷ []) ∷
    lies 4 (0 ∷ 1 ∷ 2 ∷ 3 ∷ 3 ∷ []) (0x1B ∷ 0xC0 ∷ []) ∷
    -- three bits, which straddle: 001 000 10|0 011 010; 111 000 11|1; 000 000 00|1 010 011 1|00 100 100
    lies 5 (1 ∷ 0 ∷ 4 ∷ 3 ∷ 2 ∷ []) (0x22 ∷ 0x34 ∷ []) ∷
    lies 8 (7 ∷ 0 ∷ 7 ∷ []) (0xE3 ∷ 0x80 ∷ []) ∷
    lies 5 (0 ∷ 0 ∷ 1 ∷ 2 ∷ 3 ∷ 4 ∷ 4 ∷ 4 ∷ []) (0x00 ∷ 0xA7 ∷ 0x24 ∷ []) ∷
    -- four bits: a sector is a hexadecimal digit
    lies 9 (8 ∷ []) (0x80 ∷ []) ∷
    lies 16 (1 ∷ 2 ∷ 15 ∷ []) (0x12 ∷ 0xF0 ∷ []) ∷
    -- eight bits: a sector is a byte
    lies 256 (1 ∷ 255 ∷ []) (0x01 ∷ 0xFF ∷ []) ∷
    -- either unused bit of the request's row, and none of its used ones
    ends-clear 2 6 (0x2D ∷ []) false ∷
    ends-clear 2 6 (0x2E ∷ []) false ∷
    ends-clear 2 6 (0xFC ∷ []) true ∷
    -- only the last byte has unused bits, and not always
    ends-clear 5 5 (0x22 ∷ 0x35 ∷ []) false ∷
    ends-clear 5 5 (0x23 ∷ 0x34 ∷ []) true ∷
    ends-clear 2 8 (0xFF ∷ []) true ∷
    takes 2 1 1 ∷
    takes 2 8 1 ∷
    takes 2 9 2 ∷
    takes 5 8 3 ∷
    takes 5 9 4 ∷
    takes 5 64 24 ∷
    takes 16 64 32 ∷
    -- of three bits the sectors 2 and 5 straddle: each starts in the first of its two bytes
    starts 2 7 0 ∷
    starts 2 8 1 ∷
    starts 5 2 0 ∷
    starts 5 3 1 ∷
    starts 5 5 1 ∷
    starts 5 6 2 ∷
    starts 16 1 0 ∷
    starts 16 2 1 ∷
    lit 3 4 0 1 ∷
    lit 3 4 2 0 ∷
    lit 8 0x2C 2 1 ∷
    []

-- the one claim
pub cases : Hold Holds table
unfolding Holds Hold table open-packing
cases = (
  refl,
  (
    refl,
    (
      (refl, refl, refl),
      (
        refl,
        (
          refl,
          (
            refl,
            (
              refl,
              (
                refl,
                (
                  (refl, refl, refl),
                  (
                    (refl, refl, refl),
                    (
                      (refl, refl, refl),
                      (
                        (refl, refl, refl),
                        (
                          (refl, refl, refl),
                          (
                            (refl, refl, refl),
                            (
                              (refl, refl, refl),
                              (
                                (refl, refl, refl),
                                (
                                  (refl, refl, refl),
                                  (
                                    (refl, refl, refl),
                                    (
                                      (refl, refl, refl),
                                      (
                                        refl,
                                        (
                                          refl,
                                          (
                                            refl,
                                            (
                                              refl,
                                              (
                                                refl,
                                                (
                                                  refl,
                                                  (
                                                    refl,
                                                    (
                                                      refl,
                                                      (
                                                        refl,
                                                        (
                                                          refl,
                                                          (
                                                            refl,
                                                            (
                                                              refl,
                                                              (refl, (refl, (refl, (refl, (refl, (refl, (refl, (refl, (refl, (refl, (refl, (refl, tt)))))))))))),
                                                            ),
                                                          ),
                                                        ),
                                                      ),
                                                    ),
                                                  ),
                                                ),
                                              ),
                                            ),
                                          ),
                                        ),
                                      ),
                                    ),
                                  ),
                                ),
                              ),
                            ),
                          ),
                        ),
                      ),
                    ),
                  ),
                ),
              ),
            ),
          ),
        ),
      ),
    ),
  ),
)
