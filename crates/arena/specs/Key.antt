-- The node of lent parts, and of a key.
use Rattle.arena.specs.declared.key.Key.{Key}
use Rattle.arena.specs.declared.key.Parts.{Parts}
use Rattle.arena.specs.declared.node.DagNode.{DagNode}
use Rattle.arena.specs.Node.{node_of}

abbrev pub node_of_parts : Parts → DagNode
node_of_parts p = node_of p.kind p.payload p.flags p.children.now

abbrev pub node_of_key : Key → DagNode
node_of_key k = node_of_parts k.parts
