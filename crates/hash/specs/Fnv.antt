-- FNV-1a, 64 bits, modulo 2^64: over the kind byte, the payload (8 bytes) and each child (4 bytes), big-endian.
use Rattle.std.specs.Prelude.{◌≡◌, ℕ, ◌+◌, ◌*◌, ◌/◌, ◌%◌, ◌^◌, List, [], ◌∷◌, ◌++◌, bit_xor}

abbrev pub offset_basis : ℕ
offset_basis = 14695981039346656037

abbrev pub prime : ℕ
prime = 1099511628211

-- multiplication by the prime, modulo 2^64
unfoldable pub times_prime : ℕ → ℕ
times_prime h = h * prime % 2 ^ 64

-- the FNV text builds the prime as 2^40 + 2^8 + 179: just these three products are added, in that order
unfoldable pub printed : ℕ → ℕ
printed h =
    let first = h * 2 ^ 40 % 2 ^ 64 in
    let second = h * 2 ^ 8 % 2 ^ 64 in
    let third = h * 179 % 2 ^ 64 in
    ((first + second) % 2 ^ 64 + third) % 2 ^ 64

-- modulo 2^64 that is the prime's product, for every number
abbrev pub PrintedIsPrime : Type 0
PrintedIsPrime = (h : ℕ) → printed h ≡ times_prime h

-- the bytes, one after another: exclusive or, then the product
unfoldable pub fnv_from : ℕ → List ℕ → ℕ
fnv_from h [] = h
fnv_from h (byte ∷ bytes) = fnv_from (times_prime (bit_xor h byte)) bytes

-- four bytes of a number, big-endian
unfoldable pub bytes32 : ℕ → List ℕ
bytes32 x = (x / 2 ^ 24 % 256) ∷ (x / 2 ^ 16 % 256) ∷ (x / 2 ^ 8 % 256) ∷ (x % 256) ∷ []

-- eight bytes of a number, big-endian
unfoldable pub bytes64 : ℕ → List ℕ
bytes64 x = bytes32 (x / 2 ^ 32) ++ bytes32 (x % 2 ^ 32)

-- the bytes of a list of children
unfoldable pub children_bytes : List ℕ → List ℕ
children_bytes [] = []
children_bytes (child ∷ children) = bytes32 child ++ children_bytes children

-- the hash of a node with this kind, payload and children
unfoldable pub node_hash_of : ℕ → ℕ → List ℕ → ℕ
node_hash_of kind payload children = fnv_from offset_basis (kind ∷ bytes64 payload ++ children_bytes children)
