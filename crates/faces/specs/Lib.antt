-- The order of faces, and Next, the face after a face, worked out from it.
pub mod Faces
pub mod Next
