-- Five writes make the five texts of the attestation. K fits an octet, since the tree is low.
use mathlib.Core.Path.{refl, sym, subst}
use mathlib.Core.List.{flatten}
use Rattle.std.proofs.Common.{rules}
use Rattle.profile.specs.Profile.{label}
use Rattle.profile.specs.Named.{number_of_profile}
use Rattle.octets.specs.Order.{Octets}
use Rattle.octets.specs.Put.{Wrote}
use Rattle.octets.specs.Writer.{HasRoom}
use Rattle.attester.specs.Attestation.{render}
use Rattle.attestation.specs.Search.{path_of}
use Rattle.attestation.proofs.IssueLaws.{keys_alike}
use Rattle.attestation.proofs.RenderLaws.{count_room, keys_room, foot_room, siblings_count_room, siblings_room, render_written}
use Rattle.attestation.proofs.issue.put_attestation.Goals as goal

pub put-requires : goal.put-requires
put-requires c =
    count_room (path_of c.args.profile c.args.search) c.requires

pub put_keys-requires : goal.put_keys-requires
put_keys-requires c =
    let s = c.args.search in
    let G = label (number_of_profile c.args.profile) in
    λ H. subst (λ ks. HasRoom c.put.new.self (flatten ks)) (keys_alike s.x.now s.keys.now s.keyed G H)
    (keys_room (path_of c.args.profile s) (c.levels-k.ensures G) c.put.ensures refl c.requires)

pub put_foot-requires : goal.put_foot-requires
put_foot-requires c =
    let H = label (number_of_profile c.args.profile) in
    foot_room (path_of c.args.profile c.args.search) (c.levels-k.ensures H) c.put.ensures refl c.requires (c.put_keys.ensures H)

pub put-requires-2 : goal.put-requires-2
put-requires-2 c =
    let H = label (number_of_profile c.args.profile) in
    siblings_count_room (path_of c.args.profile c.args.search) (c.levels-k.ensures H) c.put.ensures refl c.requires (c.put_keys.ensures H) c.put_foot.ensures

pub put_siblings-requires : goal.put_siblings-requires
put_siblings-requires c =
    let H = label (number_of_profile c.args.profile) in
    siblings_room (path_of c.args.profile c.args.search) (c.levels-k.ensures H)
    c.put.ensures refl c.requires (c.put_keys.ensures H) c.put_foot.ensures c.put-2.ensures

pub returns : goal.returns
returns c =
    let H = label (number_of_profile c.args.profile) in
    let w = render_written (path_of c.args.profile c.args.search) (c.levels-k.ensures H)
    c.put.ensures refl c.requires (c.put_keys.ensures H) c.put_foot.ensures c.put-2.ensures c.put_siblings.ensures in
    let b = sym w.buffer in
    subst (λ (q : Octets). Wrote c.args.out.now 0 (render (path_of c.args.profile c.args.search)) q c.put_siblings.new.w.at) (search (rules, b)) w.wrote
