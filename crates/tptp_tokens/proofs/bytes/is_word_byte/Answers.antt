use Rattle.std.proofs.Common.{◌∷◌, [], ℕ, ◌/◌, ◌%◌, Bool, nat_eq, slice_index_or, bit_and, ◌^◌, refl}
use Rattle.std.proofs.lemmas.Bool.{agree_below_at}
use Rattle.tptp_tokens.specs.Bytes.{is_word_byte}
use Rattle.tptp_tokens.proofs.bytes.is_word_byte.Goals as goal

-- whether the byte's bit is set
abbrev is_set : ℕ → Bool
is_set byte = nat_eq (bit_and (slice_index_or {A = ℕ} (287948901175001088 ∷ 576460745995190270 ∷ 0 ∷ 0 ∷ []) (byte / 64) 0 / 2 ^ (byte % 64)) 1) 1

pub returns : goal.returns
returns c = agree_below_at is_set is_word_byte 256 c.args.byte refl c.ranges.byte.fits
