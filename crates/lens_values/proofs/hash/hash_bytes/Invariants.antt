use Rattle.std.proofs.Common.{◌≡◌, fold, length, take}
use Rattle.lens_values.specs.Hash.{hash_number}
use Rattle.lens_values.proofs.hash.hash_bytes.Given as goal

-- the hash is that of the length and the bytes so far
abbrev pub invariant-loop-byte : goal.invariant-loop-byte
invariant-loop-byte l = l.longer ≡ fold hash_number (hash_number l.hash (length l.bytes)) (take l.byte-index l.bytes)
