use Rattle.scc_buckets.proofs.Bounds.{put-last}
use Rattle.scc_buckets.proofs.Buckets.push_last.Goals as goal

pub returns-clause-list : goal.returns-clause-list
returns-clause-list g c =
    let put = c.insert_with_room-place.ensures.inserts in
    put-last c.args.self.now c.args.bucket c.args.entry _ _ put.exact c.requires.bounded (put.last c.requires.bounded) c.requires.short

pub returns-clause-listed : goal.returns-clause-listed
returns-clause-listed g c = c.insert_with_room-place.ensures.listed (returns-clause-list g c).bounded
