-- Where the theory gets its entries' width and its limit: the one place to look. Its label function is `label profile`, of
-- `profile`.
use Rattle.std.specs.Prelude.{ℕ}

-- 01, "Keys and codes": "A key is any 20 octets"; an entry is a key and nothing else
abbrev pub width : ℕ
width = 20

-- 01, "Tree, node record, digest": "Accepted key lists hold 1 to 3,000 keys"
abbrev pub most : ℕ
most = 3000
