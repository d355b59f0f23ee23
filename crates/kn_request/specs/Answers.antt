-- Whose a request is.
use Rattle.kn_head.specs.declared.head.Head.{Head}
use Rattle.kn_event.specs.declared.revision.Spec.{Spec}
use Rattle.kn_directory.specs.Names.{HasName}

-- the request is one to the revision
abbrev pub IsFor : Spec → Head → Type 0
IsFor spec head = HasName spec head.namespace head.revision
