-- Each value is the checker's own evaluation of the definitions: ten blocks of SHA-256 for each digest of F, two for a lone node.
use mathlib.Core.Path.{◌≡◌, refl}
use Rattle.sha256.specs.Fips180.{octets, sha256}
use Rattle.sha256.proofs.Examples.{computed}
use Rattle.profile.specs.Profile.{full, drill, kept, label}
use Rattle.attester.specs.Record.{flag, child_octets, node_record}
use Rattle.attester.specs.Tree.{tree}
use Rattle.attester.specs.Label as labels
use Rattle.codes.specs.Code.{key_of}
use Rattle.examples.specs.F.{code_1_1, code_3_4, F}
use Rattle.examples.specs.Values.{lone_record, number, Values}

F_full : labels.digest (label full) F ≡ octets 32 0x19c2c39e_b852e640_afbb4be2_2ebf0993_dc75abca_5bf8fe3b_0fe4127b_ce6a5c97
unfolding labels.digest labels.label tree flag child_octets node_record kept label key_of computed
F_full = refl

F_drill : labels.digest (label drill) F ≡ octets 32 0xb8aa0000_00000000_00000000_00000000_00000000_00000000_00000000_00000000
unfolding labels.digest labels.label tree flag child_octets node_record kept label key_of computed
F_drill = refl

lone_1_1 : sha256 (lone_record (key_of code_1_1)) ≡ octets 32 0x55790570_fa8ec8d9_ae885309_356ecd06_da27149c_ea5aa3f1_db3ea53d_8990beb0
unfolding flag child_octets node_record key_of computed
lone_1_1 = refl

lone_78159 : sha256 (lone_record (number 78159)) ≡ octets 32 0x55792d69_f95dfbb0_0bb12c45_7d1d2926_0128f6fb_3688fc40_fbd9926f_bafb0183
unfolding flag child_octets node_record computed
lone_78159 = refl

lone_3_4 : sha256 (lone_record (key_of code_3_4)) ≡ octets 32 0x492df7e0_ae59067d_10748545_fa79e50c_2e327507_615415fa_866a2c98_0499c9c0
unfolding flag child_octets node_record key_of computed
lone_3_4 = refl

lone_16401 : sha256 (lone_record (number 16401)) ≡ octets 32 0x492d740a_df435622_603d96de_10e0d78c_0f286f0e_5c1ddf8e_4ba2870d_7e82e3e4
unfolding flag child_octets node_record computed
lone_16401 = refl

pub values : Values
values = record {
  F_full = F_full;
  F_drill = F_drill;
  lone_1_1 = lone_1_1;
  lone_78159 = lone_78159;
  lone_3_4 = lone_3_4;
  lone_16401 = lone_16401;
}
