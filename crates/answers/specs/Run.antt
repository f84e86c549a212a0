-- What is had of a run's image before anything is asked of it.
use Rattle.prepare.specs.Had.{Had}
use Rattle.answers.specs.declared.run.Run.{Run}

abbrev pub IsHad : Run → Type 0
IsHad run = Had run.image.now run.index.now run.prepared
