use Rattle.write_fields.proofs.+put_many.Given as goal

abbrev pub decreases-put_many : goal.decreases-put_many
decreases-put_many l = l.v
