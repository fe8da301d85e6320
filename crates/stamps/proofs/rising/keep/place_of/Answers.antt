-- Behind the front of the stamps that are at most as large.
-- The prover does not read by itself what the point of a partition is to a closure.
use Rattle.std.proofs.Common.{leb, ap, ◌∙◌, rules}
use Rattle.std.proofs.lemmas.List.Sorted.{IsPartitionPoint-from_clause, IsPartitionedBy-leb}
use Rattle.std.specs.List as list
use Rattle.stamps.proofs.Parting.{never_falls, parts_behind_front, insert_behind_front}
use Rattle.stamps.proofs.rising.keep.place_of.Goals as goal

pub returns-clause-rises : goal.returns-clause-rises
returns-clause-rises c =
    let xs = c.args.stamps.now in
    let a = c.args.stamp in
    let parted = IsPartitionedBy-leb (λ y. y) xs a (never_falls xs c.requires) in
    let point = IsPartitionPoint-from_clause (λ y. leb y a) _ _ c.partition_point.ensures.partitioned parted (λ x r q k. search rules) in
    ap (λ i. list.insert xs i a) (parts_behind_front (λ y. leb y a) xs _ c.partition_point.ensures.bound point) ∙ insert_behind_front a xs
