use Rattle.npy_writing.specs.Front.{dict-put}
use Rattle.lists.specs.Bytes.{bytes}
use Rattle.npy_writing.proofs.put_dict.Goals as goal

pub returns : goal.returns
unfolding bytes
returns c =
    dict-put _ c.put_bytes-a.ensures c.put_tuple-b.ensures
    c.put_bytes.ensures
