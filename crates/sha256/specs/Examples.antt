-- Values that NIST publishes for SHA-256, which tell whether the definitions of `Fips180` are the standard's: a constant that is wrong in
-- the definitions and in the code alike would be found here. Proved, by computation, in `proofs/Examples.antt`.
use Rattle.std.specs.Prelude.{◌≡◌, []}
use Rattle.sha256.specs.Fips180.{octets, sha256}

pub record Examples : Type 0 where
  -- NIST's test vectors, SHA256ShortMsg, Len = 0: no octets
  pub no_octets : sha256 [] ≡ octets 32 0xe3b0c442_98fc1c14_9afbf4c8_996fb924_27ae41e4_649b934c_a495991b_7852b855
  -- NIST's "Examples with Intermediate Values" for FIPS 180-4, SHA-256, one block: the octets of "abc"
  pub abc : sha256 (octets 3 0x616263) ≡ octets 32 0xba7816bf_8f01cfea_414140de_5dae2223_b00361a3_96177a9c_b410ff61_f20015ad
  -- the same, two blocks: the 56 octets of "abcdbcdecdefdefgefghfghighijhijkijkljklmklmnlmnomnopnopq"
  pub two_blocks :
      sha256 (octets 56 0x61626364_62636465_63646566_64656667_65666768_66676869_6768696a_68696a6b_696a6b6c_6a6b6c6d_6b6c6d6e_6c6d6e6f_6d6e6f70_6e6f7071)
      ≡ octets 32 0x248d6a61_d20638b8_e5c02693_0c3e6039_a33ce459_64ff2167_f6ecedd4_19db06c1
