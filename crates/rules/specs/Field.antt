-- The fields of a thread's row that hold one number each.
pub data Field : Type 0 where
  Place Operation Rec Next Source Node Seen Shard Lone Reclaimable Unreclaimed Tail Done : Field
  Count Rcount Total Due Clock : Field
  deriving Discrete as Field-discrete
