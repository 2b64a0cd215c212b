pub mod StrictLaws
