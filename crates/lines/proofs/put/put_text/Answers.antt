use Rattle.lines.proofs.put.put_text.Goals as goal

pub returns : goal.returns
returns c = let e = c.put_bytes.ensures in record { next = e.0; left = e.1 }
