-- Values that the definitions of SHA-256, record, tree and label come to, for document 01's list F and for the drill of `docs/DRILL.md`
-- (02, vi). They were worked out by another program, with another SHA-256. Proved, by computation, in `proofs/Values.antt`.
use Rattle.std.specs.Prelude.{◌≡◌, ℕ}
use Rattle.std.proofs.Math.Option.{none}
use Rattle.octets.specs.Order.{Octets}
use Rattle.sha256.specs.Fips180.{octets, sha256}
use Rattle.profile.specs.Profile.{full, drill, label}
use Rattle.attester.specs.Record.{node_record}
use Rattle.attester.specs.Label.{digest}
use Rattle.codes.specs.Code.{key_of}
use Rattle.examples.specs.F.{code_1_1, code_3_4, F}

-- the record of a node that has no children
abbrev pub lone_record : Octets → Octets
lone_record k = node_record none k none

-- 02 (vi): "keys as big-endian numbers"
abbrev pub number : ℕ → Octets
number n = octets 20 n

pub record Values : Type 0 where
  -- F's digest in each profile
  pub F_full : digest (label full) F ≡ octets 32 0x19c2c39e_b852e640_afbb4be2_2ebf0993_dc75abca_5bf8fe3b_0fe4127b_ce6a5c97
  pub F_drill : digest (label drill) F ≡ octets 32 0xb8aa0000_00000000_00000000_00000000_00000000_00000000_00000000_00000000
  -- the SHA-256 of four lone nodes' records; those of 1-1 and of the number 78,159 agree in their first 2 octets, and those of 3-4 and
  -- of the number 16,401
  pub lone_1_1 : sha256 (lone_record (key_of code_1_1)) ≡ octets 32 0x55790570_fa8ec8d9_ae885309_356ecd06_da27149c_ea5aa3f1_db3ea53d_8990beb0
  pub lone_78159 : sha256 (lone_record (number 78159)) ≡ octets 32 0x55792d69_f95dfbb0_0bb12c45_7d1d2926_0128f6fb_3688fc40_fbd9926f_bafb0183
  pub lone_3_4 : sha256 (lone_record (key_of code_3_4)) ≡ octets 32 0x492df7e0_ae59067d_10748545_fa79e50c_2e327507_615415fa_866a2c98_0499c9c0
  pub lone_16401 : sha256 (lone_record (number 16401)) ≡ octets 32 0x492d740a_df435622_603d96de_10e0d78c_0f286f0e_5c1ddf8e_4ba2870d_7e82e3e4
